-- What is read as a value is one, by the standard.
use Rattle.std.specs.Prelude.{◌+◌, ◌≤◌, ◌≡◌, ◌∷◌, ◌++◌, Ok, Err}
use Rattle.wire.proofs.Kit.{ℕ, zero, suc, refl, List, [], arith, length, length-append, eqb, eqb-true}
use Rattle.wire.specs.Number.{digits, Bytes}
use Rattle.wire.proofs.Laws.{picked}
use Rattle.wire.proofs.Stands.{Here, join, end8, end_text}
use Rattle.image.specs.Due.{Due, Fact, end, stop, seen, due, ◌>>=◌, Ends}
use Rattle.amf0.specs.Fields.{got_fields, Fields}
use Rattle.amf0.specs.Reading.{items, pair, pairs, follow, own_at, value}
use Rattle.amf0.specs.Standard.{Sort, content, Tree, depth, follows, UTF-8, Encodes}
use Rattle.amf0.specs.Standard.UTF-8.{short}
use Rattle.amf0.proofs.Rows.{item_at, IsRead, item_ends}
use Rattle.amf0_theorems.proofs.Complete.{part, follow_next, value_item}

-- one reading and then another ends where the first ends somewhere and the second ends from there
pub bind_ends : {P : Type 0} (d : Due) (k : ℕ → Due) (n : ℕ) → Ends (d >>= k) n → ((m : ℕ) → Ends d m → Ends (k m) n → P) → P
bind_ends (end m) k n h go = go m refl h
bind_ends (stop a p) k n h go = absurd h
bind_ends (seen fact d) k n h go = bind_ends d k n h go
bind_ends (due r p d) k n h go = bind_ends d k n h go

-- from the place `at` of s to n stands a tree of at most `left` levels
pub record Found (k : Sort) (left : ℕ) (s : List ℕ) (at n : ℕ) : Type 0 where
  pub tree : Tree k
  pub row : List ℕ
  pub rest : List ℕ
  pub encodes : Encodes k tree row
  pub here : Here s at row rest
  pub next : n ≡ at + length row
  pub deep : depth tree ≤ left

found : {k : Sort} {t : Tree k} {s x r : List ℕ} {at n left : ℕ} → Encodes k t x → Here s at x r → n ≡ at + length x → depth t ≤ left → Found k left s at n
found {t} {x} {r} e h l d = record { tree = t; row = x; rest = r; encodes = e; here = h; next = l; deep = d }

-- a row, and another where it ends
pub ends_at : {s x r y z : List ℕ} {at next : ℕ} → Here s at x r → next ≡ at + length x → Here s next y z → Here s at (x ++ y) z
ends_at h e g = join h refl (rw e at g)

-- what stands behind a name stands behind its length and letters
pub keyed : {s r y z : List ℕ} {at : ℕ} (k : List ℕ) → Here s at (digits 2 (length k) ++ k) r → Here s (at + 2 + length k) y z
    → Here s at ((digits 2 (length k) ++ k) ++ y) z
keyed k h g = ends_at h (omega arith) g

-- the end of properties, with a name before the end marker or none
closed : {s r : List ℕ} {at n left : ℕ} (k : List ℕ) → UTF-8 k (digits 2 (length k) ++ k) → Here s at ((digits 2 (length k) ++ k) ++ (9 ∷ [])) r
    → n ≡ at + length ((digits 2 (length k) ++ k) ++ (9 ∷ [])) → Found Sort.properties left s at n
closed [] key h l = found Encodes.end h l (omega arith)
closed (b ∷ k) key h l = found (Encodes.departure_named_end key (omega arith)) h l (omega arith)

module _ (s : List ℕ) (bs : Bytes s) (left : ℕ) (inner : ℕ → Due) (good : (at n : ℕ) → Ends (inner at) n → Found Sort.value left s at n) where
  items_sound : (c at n : ℕ) → Ends (items inner c at) n → Found (Sort.values c) left s at n
  unfolding items
  items_sound zero at n e = found Encodes.nil (record { same = refl }) (omega arith) (omega arith)
  items_sound (suc c) at n e =
      bind_ends (inner at) (items inner c) n e λ m f g.
      let v = good at m f in
      let vs = items_sound c m n g in
      found (Encodes.cons v.encodes vs.encodes) (ends_at v.here v.next vs.here) (omega (arith, length-append v.row vs.row)) (omega arith)

  pair_sound : (k r : List ℕ) (at n : ℕ) (more : ℕ → Due) → ((at : ℕ) → Ends (more at) n → Found Sort.properties left s at n)
      → Here s at (digits 2 (length k) ++ k) r → UTF-8 k (digits 2 (length k) ++ k)
      → Ends (pair inner more s at (at + 2) (length k) (at + 2 + length k)) n → Found Sort.properties left s at n
  unfolding pair
  pair_sound k r at n more ih h key =
      let q : ℕ = at + 2 + length k in
      let P : Due → Type 0 = λ x. Ends x n → Found Sort.properties left s at n in
      end8 P stop (λ a p e. absurd e) s bs q _ λ m g.
      picked P (eqb m 9) _ _
      (λ t e. closed k key (keyed k h (rw (eqb-true m 9 t) at g)) (omega (arith, length-append k (9 ∷ []))))
      (λ t e.
      bind_ends (inner q) more n e λ j f g.
      let v = good q j f in
      let ps = ih j g in
      found (Encodes.property key v.encodes ps.encodes) (keyed k h (ends_at v.here v.next ps.here))
      (omega (arith, length-append k (v.row ++ ps.row), length-append v.row ps.row)) (omega arith))

  pairs_sound : (fuel at n : ℕ) → Ends (pairs inner s fuel at) n → Found Sort.properties left s at n
  unfolding pairs
  pairs_sound zero at n = λ e. absurd e
  pairs_sound (suc fuel) at n =
      end_text (λ d. Ends d n → Found Sort.properties left s at n) stop (λ a p e. absurd e) s bs at 2 _ λ k r h b u.
      pair_sound k r at n (pairs inner s fuel) (λ q. pairs_sound fuel q n) h (short k b u)

  part_sound : (k : Sort) (fuel at n : ℕ) → Ends (part inner s fuel k at) n → Found k left s at n
  part_sound Sort.value fuel at n e = good at n e
  part_sound Sort.properties fuel at n e = pairs_sound fuel at n e
  part_sound (Sort.values c) fuel at n e = items_sound c at n e

  node_sound : (look : ℕ → Fact) (at n : ℕ) (x : Fields) → IsRead s at x
      → Ends (got_fields stop x λ r f q. seen (look q) (due r at (follow inner s f q))) n → Found Sort.value (suc left) s at n
  node_sound look at n (Ok x) g e =
      let t = part_sound (follows g.what) (length s) x.2.at n (rw (g.follows, follow_next inner s (content g.what) x.2.at) at e) in
      found (Encodes.node g.grammar t.encodes) (ends_at g.here g.long t.here) (omega (arith, length-append g.row t.row)) (omega arith)
  node_sound look at n (Err r) g e = absurd e

pub sound : (left : ℕ) (s : List ℕ) (at n : ℕ) → Bytes s → Ends (value left s at) n → Found Sort.value left s at n
unfolding value
sound zero s at n bs e = end8 (λ d. Ends d n → Found Sort.value 0 s at n) stop (λ a p e. absurd e) s bs at _ (λ m h e. absurd e) e
sound (suc left) s at n bs e =
    node_sound s bs left (value left s) (λ p q. sound left s p q bs) (own_at left s at) at n (item_at s at) (item_ends s bs at) (rw (value_item left s at) at e)
