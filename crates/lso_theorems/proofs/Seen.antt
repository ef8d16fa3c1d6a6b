-- What stands at a place of a file's image, as its writing sees it: the record that is due there, or none.
use Rattle.std.specs.Prelude.{◌≡◌}
use Rattle.wire.proofs.Kit.{ℕ, refl, sym, ◌∙◌, List, drop}
use Rattle.amf0.specs.Shown.{Stands}
use Rattle.wire.specs.Number.{Bytes}
use Rattle.wire.proofs.Laws.{picked, false_true}
use Rattle.image.specs.declared.record.Layout.{Layout}
use Rattle.image.specs.declared.record.Record.{Record}
use Rattle.image.specs.declared.record.Record.TheVariants as R
use Rattle.image.specs.Kind as kind
use Rattle.image.specs.Record.{◌bytes◌, none}
use Rattle.image.specs.Out.{Out, stop, put, row, row_bytes, named_of}
use Rattle.image.proofs.Kinded.{is}
use Rattle.amf0.specs.Writing.{asked}
use Rattle.amf0_theorems.proofs.Puts.{empty, named}
use Rattle.amf0_theorems.specs.Unwritten.{Fronts}
use Rattle.amf0_theorems.proofs.Seen.{Took, named_stands, Asking, asking}
use Rattle.lso.specs.Writing.{opening, naming, keying, header}
use Rattle.lso_theorems.specs.Unwritten.{NoFile, NoKey}

module _ (s image : List ℕ) (bs : Bytes image) (at : ℕ) where
  -- ---- a key's

  -- a key's record is taken, and put out; or there is none, and 6
  pub data SeenKey (k : ℕ → Out) : Out → Type 0 where
    seen : {p n q : ℕ} {b : List ℕ} → Took s image bs at (R.Key p n) q → Stands s p n → SeenKey k (put b (k q))
    unseen : NoKey s (drop at image) → SeenKey k (stop 6 at)

  -- the key's record that is taken
  abbrev keyed : (ℕ → Out) → Layout → ℕ → Out
  keyed k l q = row s (keying l.a.number l.b.number) at (k q)

  pub see_key : (k : ℕ → Out) → SeenKey k (asked image kind.key at (keyed k))
  unfolding row
  see_key k = go (asking s image bs at kind.key (keyed k))
    where
      by : {p n q : ℕ} → Took s image bs at (R.Key p n) q → ((t : Record) → Fronts s t (drop at image) → t ≡ R.Key p n) → SeenKey k (row s (keying p n) at (k q))
      by {p} {n} t one =
          picked (SeenKey k) (named_of s (keying p n)) _ (stop 6 at) (λ h. SeenKey.seen t (named_stands s none 2 p n h))
          (λ h. SeenKey.unseen (record {
            none = λ u m f.
                let g = one (R.Key u m) f in
                let a : u ≡ p = cc in
                let b : m ≡ n = cc in
                false_true (sym h ∙ named s none (2 bytes n) none (rw (a, b) at f.named.0));
          }))

      go : {d : Out} → Asking s image bs at kind.key (keyed k) d → SeenKey k d
      go (Asking.asks {r} t e one) = let i = is r kind.key e in rw i.2 (by (rw i.2 at t) (λ x f. one x f ∙ i.2))
      go (Asking.other n) = SeenKey.unseen (record { none = λ u m f. n (R.Key u m) f refl })

-- ---- the file's own

module _ (s image : List ℕ) (bs : Bytes image) where
  -- a file's record is taken, and put out in three rows; or there is none, or its name is not in the text, and 6
  pub data SeenFile (k : ℕ → Out) : Out → Type 0 where
    seen : {stored p n q : ℕ} {b c d : List ℕ} → Took s image bs 0 (R.Lso stored p n) q → Stands s p n → SeenFile k (put b (put c (put d (k q))))
    unseen : NoFile s image → SeenFile k (stop 6 0)
    unnamed : {b : List ℕ} → NoFile s image → SeenFile k (put b (stop 6 0))

  -- the file's record that is taken, with the length that its header says
  abbrev filing : (ℕ → ℕ → ℕ) → (ℕ → Out) → Layout → ℕ → Out
  filing stored k l q = header (stored l.c.number q) s l.b.number l.c.number (k q)

  pub see_file : (stored : ℕ → ℕ → ℕ) (k : ℕ → Out) → SeenFile k (asked image kind.lso 0 (filing stored k))
  unfolding row
  see_file stored k = go (asking s image bs 0 kind.lso (filing stored k))
    where
      by : {l p n q : ℕ} → Took s image bs 0 (R.Lso l p n) q → ((t : Record) → Fronts s t image → t ≡ R.Lso l p n) → SeenFile k (header (stored n q) s p n (k q))
      by {p = p} {n} {q} t one =
          let front : List ℕ = row_bytes s (opening (stored n q)) in
          rw (named s (4 bytes 0) none none (empty s))
          (picked (λ (x : Out). SeenFile k (put front x)) (named_of s (naming p n)) _ (stop 6 0)
          (λ h. SeenFile.seen t (named_stands s none 0 p n h))
          (λ h. SeenFile.unnamed (record {
            none = λ j u m f.
                let g = one (R.Lso j u m) f in
                let a : u ≡ p = cc in
                let b : m ≡ n = cc in
                false_true (sym h ∙ named s none (2 bytes n) none (rw (a, b) at f.named.0));
          })))

      go : {d : Out} → Asking s image bs 0 kind.lso (filing stored k) d → SeenFile k d
      go (Asking.asks {r} t e one) = let i = is r kind.lso e in rw i.3 (by (rw i.3 at t) (λ x f. one x f ∙ i.3))
      go (Asking.other n) = SeenFile.unseen (record { none = λ l u m f. n (R.Lso l u m) f refl })
