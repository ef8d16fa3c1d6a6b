-- The cut of a packet reads only what stands beside the values of a known length: how its entries lie, and that the same bytes beside those are cut alike.
use Rattle.std.specs.Prelude.{◌+◌, ◌-◌, ◌≤◌, ◌<◌, ◌≡◌, ◌∷◌, ◌++◌, Ok, Err, Result}
use Rattle.wire.proofs.Kit.{ℕ, zero, suc, refl, sym, ap, subst, ◌∙◌, inl, inr, List, [], append-nil, map, Bool, true, false}
use Rattle.wire.proofs.Kit.{arith, le_refl, length, get_or, leb, leb-true, le-leb, ap₂, drop, eqb, eqb-true}
use Rattle.wire.specs.Choice.{pick}
use Rattle.wire.specs.Limit as limit
use Rattle.wire.specs.Number.{Bytes, number}
use Rattle.wire.specs.Field.{to, bytes_at, u16_at, tag_at, past_tag, got_to}
use Rattle.wire.specs.declared.cursor.Cursor.{Cursor}
use Rattle.wire.proofs.Laws.{picked, u16_next, tag_next}
use Rattle.wire.proofs.Stands.{Here, stood, length_bytes}
use Rattle.amf0.specs.Span.{Span, Beside, Changed}
use Rattle.amf0_theorems.specs.Spans.{Value}
use Rattle.amf0_theorems.proofs.Spans.{Placed, Lies, past, lies_forward, lies_before, lies_after, lies_append, lies_within, bytes_same}
use Rattle.packet.specs.declared.head.Entry.{Entry}
use Rattle.packet.specs.Head.{unknown, version_at, front_of}
use Rattle.packet.specs.Change.{known, known_spans}
use Rattle.packet.proofs.Laws.{Between, head_length, entry_spanned, version_told, front_told}
use Rattle.packet.specs.Entry.{done, halt, Trail, reached, stopped, puts, measured, entry_at, walk, Cut, found, stops, strict, cut_of, no_entry, span, span_of}
use Rattle.packet_theorems.proofs.Same.{on_end, on_field, Same, u8_same, u16_same, tag_same, head_same}
use Rattle.packet_theorems.proofs.Said.{says_value, says_again, entry_said, Said, said}
use Rattle.wire.specs.Answer.{denied, Verdict}

-- ---- entries in their order

-- the byte at i is one of an entry's texts
pub data Text (e : Entry) (i : ℕ) : Type 0 where
  first : e.place1 ≤ i → i < e.place1 + e.length1 → Text e i
  second : e.place2 ≤ i → i < e.place2 + e.length2 → Text e i

-- they stand before its value
before_value : {at : ℕ} {e : Entry} → Between at e.place e.place1 e.length1 → Between at e.place e.place2 e.length2
    → (i : ℕ) → Text e i → (at ≤ i) × (i < e.place)
before_value f g i (Text.first a b) = f.bounds i a b
before_value f g i (Text.second a b) = g.bounds i a b

-- ---- what stands in no value of a known length

-- one span more, or not
more_beside : (i : ℕ) (p : Span) (xs ys : List Span) (b : Bool) → (Beside i xs → Beside i ys) → Beside i (pick b (p ∷ xs) xs) → Beside i (pick b (p ∷ ys) ys)
more_beside i p xs ys true f h = (h.0, f h.1)
more_beside i p xs ys false f h = f h

less_beside : (i : ℕ) (p : Span) (xs : List Span) (b : Bool) → Beside i (pick b (p ∷ xs) xs) → Beside i xs
less_beside i p xs true h = h.1
less_beside i p xs false h = h

module _ (s : List ℕ) (i : ℕ) where
  -- what is beside all values,
  pub known_beside : (es : List Entry) → Beside i (map span es) → Beside i (known_spans s es)
  known_beside [] b = tt
  known_beside (e ∷ es) b = picked (Beside i) (known s e) _ _ (λ k. (b.0, known_beside es b.1)) (λ k. known_beside es b.1)

  -- what is beside those of two rows,
  known_append : (hs ms : List Entry) → Beside i (known_spans s hs) → Beside i (known_spans s ms) → Beside i (known_spans s (hs ++ ms))
  known_append [] ms a b = b
  known_append (e ∷ hs) ms a b =
      more_beside i (span e) (known_spans s hs) (known_spans s (hs ++ ms)) (known s e) (λ c. known_append hs ms c b) a

  -- and what is in a value that is measured
  pub unknown_beside : {Own : Entry → ℕ → Type 0} {at next : ℕ} {es : List Entry} (k : ℕ) → Lies span Own at next es → k < length es
      → known s (get_or es k no_entry) ≡ false → let p = span (get_or es k no_entry) in p.place ≤ i → i < past p → Beside i (known_spans s es)
  unknown_beside k (Lies.none l) h u a b = absurd (omega arith)
  unknown_beside zero (Lies.more {es = es} p l) h u a b = rw u (known_beside es (lies_before l b))
  unknown_beside (suc k) (Lies.more {e = e} {es = es} p l) h u a b =
      let c = unknown_beside k l (omega arith) u a b in
      let w = (lies_within no_entry k l (omega arith)).0 in
      picked (Beside i) (known s e) _ _ (λ t. (inr (omega arith), c)) (λ t. c)

  -- and what is beside them all is beside each
  pub known_at : (es : List Entry) (j : ℕ) → Beside i (known_spans s es) → j < length es → known s (get_or es j no_entry) ≡ true
      → Beside i (span (get_or es j no_entry) ∷ [])
  known_at [] j b h k = absurd (omega arith)
  known_at (e ∷ es) zero b h k = let c = rw k at b in (c.0, tt)
  known_at (e ∷ es) (suc j) b h k = known_at es j (less_beside i (span e) (known_spans s es) (known s e) b) (omega arith) k

-- ---- one entry

-- its length field is read with its head
head_known : {kind : ℕ} {s : List ℕ} {at : ℕ} {e : Entry} (w : Said kind s at e) → w.head.length ≡ number (bytes_at 4 s (e.place - 4))
head_known {kind} {s} {at} {e} w =
    let p : w.head.place ≡ e.place = ap (λ (e : Entry). e.place) w.is in
    rw (← p) (head_length s at kind w.read)

-- a value that is measured is one
measured_value : {kind : ℕ} {s : List ℕ} {at : ℕ} {e : Entry} → Said kind s at e → known s e ≡ false → Value (span_of s e)
measured_value {s = s} {e = e} w u = let n = number (bytes_at 4 s (e.place - 4)) in says_value w.says (head_known w ∙ eqb-true n unknown (go (eqb n unknown) u))
  where
    go : (b : Bool) → pick b false true ≡ false → b ≡ true
    go true f = refl
    go false f = sym f

-- an entry of s is found where the same bytes stand up to its value, as many behind that, and the same where it is measured
entry_same : (kind : ℕ) {s : List ℕ} {at : ℕ} {e : Entry} → Said kind s at e → e.place + e.length ≤ length s → (t : List ℕ) → length t ≤ limit.bytes
    → Same s t at e.place → e.place + e.length ≤ length t → (known s e ≡ false → span_of t e ≡ span_of s e)
    → entry_at kind t at ≡ got_to e (to (e.place + e.length))
entry_same kind {s} {at} {e} w i t l m j same =
    let p : w.head.place ≡ e.place = ap (λ (e : Entry). e.place) w.is in
    let n = length_bytes e.length t e.place j in
    let y = says_again w.says (n ∙ sym (length_bytes e.length s e.place i)) λ u. same (rw (← head_known w, u)) in
    let h = head_same (rw (← p) at m) kind w.read in
    let g : Here t w.head.place (span_of t e) (drop (e.place + e.length) t) = rw p (stood e.length t e.place) in
    entry_said kind at l h refl y g
    ∙ ap₂ (λ f z. got_to f (to z)) (ap (measured w.head) n ∙ w.is) (ap₂ ◌+◌ p n)

-- ---- a walk

no_cut : {P : Type 0} {es : List Entry} {z : ℕ} (a p : ℕ) → stops a p ≡ found es z → P
no_cut a p q = let z : ◌≡◌ {A = ℕ} 0 1 = cc in absurd (omega arith)

no_end : {P : Type 0} {z : ℕ} (a p : ℕ) → halt a p ≡ done z → P
no_end a p q = let z : ◌≡◌ {A = ℕ} 0 1 = cc in absurd (omega arith)

-- each value that is measured is one
abbrev pub Measured : List ℕ → List Entry → Type 0
Measured s [] = Unit {0}
Measured s (e ∷ es) = (known s e ≡ false → Value (span_of s e)) × Measured s es

-- of two rows, one behind the other, and at a number
measured_append : (s : List ℕ) (hs ms : List Entry) → Measured s hs → Measured s ms → Measured s (hs ++ ms)
measured_append s [] ms a b = b
measured_append s (e ∷ hs) ms a b = (a.0, measured_append s hs ms a.1 b)

pub measured_at_lem : (s : List ℕ) (es : List Entry) (k : ℕ) → Measured s es → k < length es → let e = get_or es k no_entry in known s e ≡ false → Value (span_of s e)
measured_at_lem s [] k m h = absurd (omega arith)
measured_at_lem s (e ∷ es) zero m h = m.0
measured_at_lem s (e ∷ es) (suc k) m h = measured_at_lem s es k m.1 (omega arith)

-- so many entries from a place of s on, and they are found again where the same bytes stand beside their values of a known length
pub record Walked (kind : ℕ) (s : List ℕ) (n at : ℕ) (es : List Entry) (z : ℕ) : Type 0 where
  pub lies : Lies span Text at z es
  pub within : at ≤ length s → z ≤ length s
  pub measured : Bytes s → length s ≤ limit.bytes → Measured s es
  pub again : Bytes s → length s ≤ limit.bytes → (t : List ℕ) → length t ≤ limit.bytes → z ≤ length t
      → ((i : ℕ) → at ≤ i → i < z → Beside i (known_spans s es) → get_or t i 0 ≡ get_or s i 0) → walk kind t n at ≡ reached es z

pub walk_read : (kind : ℕ) (s : List ℕ) (n at z : ℕ) → (walk kind s n at).ending ≡ done z → Walked kind s n at (walk kind s n at).entries z
unfolding walk
walk_read kind s zero at z = λ q.
    let is : at ≡ z = cc in
    rw (← is) (record { lies = Lies.none (le_refl at); within = λ h. h; measured = λ bs l. tt; again = λ bs l t k f m. refl })
walk_read kind s (suc n) at z =
    on_field (λ t. t.ending ≡ done z → Walked kind s (suc n) at t.entries z) stopped no_end (entry_at kind s at) _ λ e c h q.
    one e c (walk kind s n c.at).entries z h (walk_read kind s n c.at z q)
  where
    one : (e : Entry) (c : Cursor) (fs : List Entry) (y : ℕ) → entry_at kind s at ≡ got_to e c → Walked kind s n c.at fs y
        → Walked kind s (suc n) at (e ∷ fs) y
    one e c fs y h w =
        let r = entry_spanned kind s at h in
        let b = r.begun in
        let l : Lies span Text (past (span e)) y fs = rw (sym r.ends) at w.lies in
        let f = lies_forward l in
        let placed : Placed span Text at e = record { forward = omega (arith, b.from); own = before_value b.first b.second } in
        record {
          lies = Lies.more placed l;
          within = λ i. w.within r.within;
          measured = λ bs i. (measured_value (said kind s at bs i h), w.measured bs i);
          again = λ bs i t j k m.
              let up : Same s t at e.place =
              record {
                within = b.within;
                fits = omega arith;
                same = λ x o u. m x o (omega arith) (known_beside s x (e ∷ fs) (inl u, lies_before l (omega arith)));
              }
              in
              let same : known s e ≡ false → span_of t e ≡ span_of s e =
              λ u.
              bytes_same s t e.place e.length
              (length_bytes e.length t e.place (omega arith) ∙ sym (length_bytes e.length s e.place (omega (arith, r.ends, r.within))))
              λ x o v. m x (omega (arith, b.from)) (omega arith) (unknown_beside s x 0 (Lies.more placed l) (omega arith) u o v)
              in
              let found = entry_same kind (said kind s at bs i h) (omega (arith, r.ends, r.within)) t j up (omega arith) same in
              rw (
                found,
                r.ends,
                w.again bs i t j k λ x o u p.
                    m x (omega (arith, b.from, r.ends)) u (picked (Beside x) (known s e) _ _ (λ v. (inr (omega (arith, r.ends)), p)) (λ v. p)),
              );
        }

-- ---- the whole cut

-- what comes behind a tag, where that is the same
past_same : {A : Type 0} (stop : ℕ → ℕ → A) (x : Result Cursor Verdict) (k l : ℕ → A) → ((c : Cursor) → x ≡ Ok c → k c.at ≡ l c.at) → past_tag stop x k ≡ past_tag stop x l
past_same stop (Ok c) k l g = g c refl
past_same stop (Err r) k l g = refl

-- the same four bytes are the same front, within the limit
version_same : {s t : List ℕ} → Same s t 0 4 → version_at t ≡ version_at s
unfolding version_at
version_same {s} {t} m =
    rw (tag_same m 0 (omega arith) (0 ∷ []) (omega arith))
    (past_same denied (tag_at (0 ∷ []) s 0) _ _ λ c e. let r = tag_next s 0 (0 ∷ []) c e in rw (u8_same m c.at (omega arith) (omega arith)))

front_same : {s t : List ℕ} → length s ≤ limit.bytes → length t ≤ limit.bytes → Same s t 0 4 → front_of t ≡ front_of s
unfolding front_of
front_same {s} {t} i j m =
    rw (le-leb (length t) limit.bytes j, le-leb (length s) limit.bytes i, version_same m)
    (past_same denied (version_at s) _ _ λ c e. let r = rw e at (version_told s) in u16_same m c.at (omega arith) (omega (arith, r.0)))

-- a packet was cut: within the limit and up to its last byte, and it is cut alike where the same bytes stand beside the values of a known length
pub record Cutted (s : List ℕ) (es : List Entry) (n : ℕ) : Type 0 where
  pub small : length s ≤ limit.bytes
  pub all : n ≡ length s
  pub lies : Lies span Text 4 n es
  pub measured : Bytes s → Measured s es
  pub again : Bytes s → (t : List ℕ) → Changed (known_spans s es) s t → cut_of t ≡ found es n

cut_of_lem : (s : List ℕ) (q f : Cursor) (h e m z : ℕ) → front_of s ≡ got_to h q → (walk 0x31 s h q.at).ending ≡ done e → u16_at s e ≡ got_to m f
    → (walk 0x32 s m f.at).ending ≡ done z → leb (length s) z ≡ true → Cutted s ((walk 0x31 s h q.at).entries ++ (walk 0x32 s m f.at).entries) z
unfolding cut_of
cut_of_lem s q f h e m z g w k x b =
    let hs = (walk 0x31 s h q.at).entries in
    let ms = (walk 0x32 s m f.at).entries in
    let fr = rw g at (front_told s) in
    let mr = u16_next s e m f k in
    let hw = walk_read 0x31 s h q.at e w in
    let mw = walk_read 0x32 s m f.at z x in
    let small = fr.0 in
    let four = fr.1 in
    let room = fr.2 in
    let lh = subst (λ p. Lies span Text p e hs) four hw.lies in
    let lm = subst (λ p. Lies span Text p z ms) mr.next mw.lies in
    let low = lies_forward lh in
    let high = mw.within (omega arith) in
    let up = lies_forward lm in
    let long = leb-true (length s) z b in
    record {
      small = small;
      all = omega arith;
      lies = lies_append lh (omega arith) lm;
      measured = λ bs. measured_append s hs ms (hw.measured bs small) (mw.measured bs small);
      again = λ bs t d.
          let l = d.long in
          let both : (i : ℕ) → Beside i (known_spans s hs) → Beside i (known_spans s ms) → get_or t i 0 ≡ get_or s i 0 =
          λ i p q. d.same i (known_append s i hs ms p q) in
          let behind : (i : ℕ) → e ≤ i → Beside i (known_spans s hs) = λ i o. known_beside s i hs (lies_after lh o) in
          let before : (i : ℕ) → i < e + 2 → Beside i (known_spans s ms) = λ i u. known_beside s i ms (lies_before lm u) in
          let front : Same s t 0 4 =
          record { within = room; fits = omega arith; same = λ i o u. both i (known_beside s i hs (lies_before lh u)) (before i (omega arith)) }
          in
          let middle : Same s t e (e + 2) =
          record { within = omega arith; fits = omega arith; same = λ i o u. both i (behind i o) (before i u) }
          in
          rw (
            front_same small (omega arith) front,
            g,
            hw.again bs small t (omega arith) (omega arith) (λ i o u p. both i p (before i (omega arith))),
            u16_same middle e (omega arith) (omega arith),
            k,
            mw.again bs small t (omega arith) (omega arith) (λ i o u p. both i (behind i (omega arith)) p),
            l,
            b,
            append-nil,
          );
    }

pub cut_read : (s : List ℕ) (es : List Entry) (n : ℕ) → cut_of s ≡ found es n → Cutted s es n
unfolding cut_of
cut_read s es n =
    let P : Cut → Type 0 = λ x. x ≡ found es n → Cutted s es n in
    on_field P stops no_cut (front_of s) _ λ h q g.
    let hs = walk 0x31 s h q.at in
    let Q : Trail → Type 0 = λ t. P (strict (puts hs.entries t)) in
    on_end Q stopped no_cut hs.ending _ λ e w.
    on_field Q stopped no_cut (u16_at s e) _ λ m f k.
    let ms = walk 0x32 s m f.at in
    let R : Trail → Type 0 = λ t. Q (puts ms.entries t) in
    on_end R stopped no_cut ms.ending _ λ z x.
    picked R (leb (length s) z) _ _
    (λ b y.
    let is : hs.entries ++ (ms.entries ++ []) ≡ es = cc in
    let iz : z ≡ n = cc in
    rw (← is, ← iz, append-nil) (cut_of_lem s q f h e m z g w k x b))
    (λ b. no_cut _ _)
