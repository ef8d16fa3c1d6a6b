-- An image whose writing is not refused is that of a file.
use Rattle.std.specs.Prelude.{◌+◌, ◌≤◌, ◌≡◌, ◌∷◌, ◌++◌}
use Rattle.wire.proofs.Kit.{ℕ, zero, suc, refl, ap, ◌∙◌, List, [], append-nil, arith, length, drop, length-append, leb, leb-true}
use Rattle.wire.specs.Number.{Bytes}
use Rattle.wire.specs.Field.{bytes_at}
use Rattle.wire.specs.Limit as limit
use Rattle.wire.proofs.Laws.{picked}
use Rattle.wire.proofs.Stands.{Here, join, length_bytes}
use Rattle.image.specs.declared.record.Record.{Record}
use Rattle.image.specs.declared.record.Record.TheVariants as R
use Rattle.image.specs.Out.{Out, end, ◌>>=◌, row, bytes as put_out_lem}
use Rattle.image.proofs.Laws.{size_bytes, size_some}
use Rattle.amf0.specs.Standard.{Sort}
use Rattle.amf0.specs.Shown.{laid, Stands, Right}
use Rattle.amf0.specs.Writing.{top_value}
use Rattle.amf0.specs.Written.Lead.{keyed}
use Rattle.amf0_theorems.proofs.Puts.{laid_append, laid_length, right_both}
use Rattle.amf0_theorems.proofs.Seen.{nothing, Took}
use Rattle.amf0_theorems.proofs.WriteSound.{Ends, bind_ends, row_ends, before, Stood, sound}
use Rattle.lso_theorems.proofs.Seen.{SeenKey, see_key, SeenFile, see_file}
use Rattle.lso.specs.File.{Body, Lso, deepest}
use Rattle.lso.specs.Writing.{zero_byte, element, body, file, length_of}
use Rattle.lso.specs.Written.{Spells, Images}

module _ (s image : List ℕ) (bs : Bytes image) where
  -- from the place `at` of the image to its end, which is n, stand the records of elements
  record StoodBody (at n : ℕ) : Type 0 where
    what : Body
    records : List Record
    rest : List ℕ
    right : Right s records
    spells : Spells s what records
    here : Here image at (laid records) rest
    next : n ≡ at + length (laid records)
    deep : deepest what ≤ limit.levels
    all : length image ≤ n

  none_sound : (at n : ℕ) → n ≡ at → length image ≤ at → StoodBody at n
  none_sound at n e h =
      record {
        what = Body.none;
        records = [];
        rest = drop at image;
        right = tt;
        spells = Spells.none;
        here = record { same = refl };
        next = omega arith;
        deep = omega arith;
        all = omega arith;
      }

  more_sound : {at p n q m e : ℕ} → Took s image bs at (R.Key p n) q → Stands s p n → Stood s image bs keyed Sort.value limit.levels q m → StoodBody m e
      → StoodBody at e
  more_sound {at} {p} {n} {q} {m} {e} t h x y =
      let j : Here image q (laid (x.records ++ y.records)) y.rest =
      rw (laid_append x.records y.records) (join x.here refl (rw x.next at y.here)) in
      let l : e ≡ q + length (laid (x.records ++ y.records)) = omega (arith, laid_length x.records y.records, x.next, y.next) in
      let b = before s image bs (x.records ++ y.records) t j l in
      record {
        what = Body.element (bytes_at n s p) x.tree y.what;
        records = R.Key p n ∷ (x.records ++ y.records);
        rest = y.rest;
        right = (t.fits, (h, tt), right_both s x.records y.records x.right y.right);
        spells = Spells.element refl x.spells y.spells;
        here = b.0;
        next = b.1;
        deep = omega (arith, x.deep, y.deep);
        all = y.all;
      }

  pub element_sound : (at m : ℕ) {A : Type 0} → Ends (element image s at) m
      → ((p n q : ℕ) → Took s image bs at (R.Key p n) q → Stands s p n → Stood s image bs keyed Sort.value limit.levels q m → A) → A
  unfolding element
  element_sound at m {A} e go = by (see_key s image bs at (λ q. top_value image s q >>= zeroed)) e
    where
      zeroed : ℕ → Out
      zeroed x = row s zero_byte at (end x)

      by : {d : Out} → SeenKey s image bs at (λ q. top_value image s q >>= zeroed) d → Ends d m → A
      by (SeenKey.seen {p} {n} {q} t h) e =
          bind_ends (top_value image s q) zeroed m e λ x f g.
          let z = (row_ends s image bs zero_byte at m (end x) g).1 in
          go p n q t h (rw z (sound s image bs limit.levels q x f))
      by (SeenKey.unseen x) e = absurd e

  body_sound : (fuel at n : ℕ) → length image ≤ fuel + at → Ends (body image s fuel at) n → StoodBody at n
  unfolding body
  body_sound zero at n h = λ e. none_sound at n e (omega arith)
  body_sound (suc fuel) at n h =
      picked (λ (x : Out). Ends x n → StoodBody at n) (leb (length image) at) (end at) (element image s at >>= body image s fuel)
      (λ i e. none_sound at n e (leb-true _ _ i))
      (λ i e. bind_ends (element image s at) (body image s fuel) n e λ m f g.
      element_sound at m f λ p k q t u x.
      more_sound t u x (body_sound fuel m n (omega (arith, x.next, t.next, size_bytes (R.Key p k), size_some (R.Key p k))) g))

  file_of : {stored p n q e : ℕ} → Took s image bs 0 (R.Lso stored p n) q → Stands s p n → StoodBody q e
      → (f : Lso) × Images s f image × (deepest f.body ≤ limit.levels)
  file_of {stored} {p} {n} {q} {e} t h y =
      let r : Record = R.Lso stored p n in
      let b = before s image bs y.records t y.here y.next in
      let l = ap length b.0.same in
      let z : y.rest ≡ [] = nothing y.rest (omega (arith, length-append (laid (r ∷ y.records)) y.rest, y.all, b.1)) in
      let same : length (bytes_at n s p) ≡ n = length_bytes n s p h.inside in (
        record { stored = stored; name = bytes_at n s p; body = y.what },
        record {
          place = p;
          records = y.records;
          fits = rw same t.fits;
          stands = rw same h;
          names = rw same;
          right = y.right;
          spells = y.spells;
          lies = rw same (b.0.same ∙ (ap (λ x. laid (r ∷ y.records) ++ x) z ∙ append-nil (laid (r ∷ y.records))));
        },
        y.deep,
      )

  -- an image of a file and no bytes past it
  pub image_of : (e : ℕ) → Ends (file length_of image s) e → (f : Lso) × Images s f image × (deepest f.body ≤ limit.levels)
  unfolding file
  image_of e h = by (see_file s image bs (λ n q. length_of n (length (put_out_lem (body image s (length image) q)))) (body image s (length image))) h
    where
      by : {d : Out} → SeenFile s image bs (body image s (length image)) d → Ends d e → (f : Lso) × Images s f image × (deepest f.body ≤ limit.levels)
      by (SeenFile.seen {q} t h) f = file_of t h (body_sound (length image) q e (omega arith) f)
      by (SeenFile.unseen x) f = absurd f
      by (SeenFile.unnamed x) f = absurd f
