-- What stands at the places that a tree's marks name: each mark is of a whole key record, right behind which its value's record stands.
use Rattle.std.specs.Prelude.{◌+◌, ◌≡◌, ◌∷◌, ◌++◌}
use Rattle.wire.proofs.Kit.{ℕ, refl, sym, ap, ◌∙◌, List, true, false, ⊎_elim, length, le-leb}
use Rattle.wire.specs.Field.{to}
use Rattle.wire.proofs.Laws.{false_true}
use Rattle.wire.proofs.Stands.{Here, cut, skip}
use Rattle.image.specs.declared.record.Record.{Record}
use Rattle.image.specs.declared.record.Record.TheVariants as R
use Rattle.image.specs.Record.{size}
use Rattle.image.specs.Taking.{record_at, taken_to}
use Rattle.amf0.specs.Standard.{Item, Sort, Content, content, sort_of, Tree}
use Rattle.amf0.specs.Shown.{Word, look, laid, Right}
use Rattle.amf0.specs.Written.{Lead, lead_of, Spells}
use Rattle.amf0.specs.Written.Lead.{keyed}
use Rattle.amf0_theorems.proofs.Puts.{laid_append, right_left, right_right, first, others}
use Rattle.index.specs.declared.mark.Mark.{Mark}
use Rattle.index.specs.Keys.{role_at}
use Rattle.index.specs.Order.{key_of}
use Rattle.index.specs.Find.{is_value, has_pairs, opens_at, starts_at}
use Rattle.index_theorems.specs.Way.{marks, Perhaps, last_in}
use Rattle.index_theorems.specs.Stand.{In, Standing}
use Rattle.index_theorems.proofs.Latest.{in_both}
use Rattle.index_theorems.proofs.Marks.{Keyed, Valued, means, due_of}

module _ (s image : List ℕ) where
  -- ---- a key's record

  module _ (at : ℕ) (r : Record) (rs : List Record) (z k : List ℕ) (h : Here image at (laid (r ∷ rs)) z) (g : Right s (r ∷ rs)) (e : look s r ≡ Word.name k) where
    pub key_there : key_of image s at ≡ k
    unfolding key_of role_at
    key_there =
        let w : Keyed s r k = rw e at (means s r g.1) in
        rw (first s image r rs z h g.0, w.role, le-leb (w.p + w.n) (length s) w.stands.inside) w.text

    pub mark_stands : (m : Mark) → m.key ≡ at → m.value ≡ at + size r → is_value image (at + size r) ≡ true → Standing image s m
    mark_stands m a b v =
        let w : Keyed s r k = rw e at (means s r g.1) in
        record {
          place = w.p;
          size = w.n;
          key = ap (record_at image) a ∙ first s image r rs z h g.0 ∙ ap (λ (x : Record). taken_to x (to (at + size r))) w.is
              ∙ ap (λ (x : ℕ). taken_to (R.Key w.p w.n) (to x)) (sym b);
          stands = w.stands;
          value = rw b v;
        }

  -- ---- a value's record

  pub value_there : {t : Tree Sort.value} {rs : List Record} → Spells s keyed Sort.value t rs → Right s rs → (z : List ℕ) (at : ℕ) → Here image at (laid rs) z
      → is_value image at ≡ true
  unfolding is_value role_at
  value_there (Spells.node {r} {i} {rs = rs} e c) g z at h =
      let w : Valued s r i = rw e at (means s r g.1) in
      rw (first s image r rs z h g.0, w.role)

  pub opens_there : (at : ℕ) (r : Record) (rs : List Record) (z : List ℕ) (i : Item) → Here image at (laid (r ∷ rs)) z → Right s (r ∷ rs) → look s r ≡ Word.item i
      → opens_at image at ≡ has_pairs (due_of (content i))
  unfolding opens_at role_at
  opens_there at r rs z i h g e =
      let w : Valued s r i = rw e at (means s r g.1) in
      rw (first s image r rs z h g.0, w.role)

  pub starts_there : {t : Tree Sort.value} {rs : List Record} → Spells s keyed Sort.value t rs → Right s rs → (z : List ℕ) → Here image 0 (laid rs) z
      → starts_at image ≡ true
  unfolding starts_at role_at
  starts_there (Spells.node {r} {i} {rs = rs} e c) g z h =
      let w : Valued s r i = rw e at (means s r g.1) in
      rw (first s image r rs z h g.0, w.role)

  values_nowhere : {n : ℕ} {t : Tree (Sort.values n)} {rs : List Record} (c : Spells s keyed (Sort.values n) t rs) (key : List ℕ) (at : ℕ)
      → last_in s c key at ≡ Perhaps.nowhere
  unfolding last_in
  values_nowhere Spells.nil key at = refl
  values_nowhere (Spells.cons v vs) key at = refl

  -- where no pairs follow there is no way down
  pub no_pairs : (i : Content) {t : Tree (sort_of i)} {rs : List Record} (c : Spells s (lead_of i) (sort_of i) t rs) (key : List ℕ) (at : ℕ)
      → has_pairs (due_of i) ≡ false → last_in s c key at ≡ Perhaps.nowhere
  no_pairs Content.nothing c key at h = values_nowhere c key at
  no_pairs Content.named c key at h = absurd (false_true (sym h))
  no_pairs Content.associative c key at h = absurd (false_true (sym h))
  no_pairs (Content.ordered n) c key at h = values_nowhere c key at

  -- ---- all marks

  pub stand : {l : Lead} {k : Sort} {t : Tree k} {rs : List Record} (c : Spells s l k t rs) → Right s rs → (z : List ℕ) (place d at : ℕ) → Here image at (laid rs) z
      → (m : Mark) → In m (marks c place d at) → Standing image s m
  unfolding marks
  stand (Spells.node {r} {rs = rs} e c) g z place d at h m i = stand c g.2 z at (d + 1) (at + size r) (others s image r rs z h) m i
  stand (Spells.none e) g z place d at h m i = absurd i
  stand (Spells.property {r} {k} {v} {ps} {rs} {qs} e c b) g z place d at h m i =
      let q : ℕ = at + size r in
      let j : Here image q (laid rs ++ laid qs) z = rw (laid_append rs qs) at (others s image r (rs ++ qs) z h) in
      let gc = right_left s rs qs g.2 in
      let jc = cut (laid rs) (laid qs) j in
      ⊎_elim
      (λ u.
      mark_stands at r (rs ++ qs) z k h g e m (ap (λ (x : Mark). x.key) u) (ap (λ (x : Mark). x.value) u) (value_there c gc (laid qs ++ z) q jc))
      (λ o. ⊎_elim
      (λ u. stand c gc (laid qs ++ z) place d q jc m u)
      (λ u. stand b (right_right s rs qs g.2) z place d (q + length (laid rs)) (skip (laid rs) (laid qs) j) m u)
      (in_both m (marks c place d q) (marks b place d (q + length (laid rs))) o)) i
  stand Spells.nil g z place d at h m i = absurd i
  stand (Spells.cons {rs} {qs} c b) g z place d at h m i =
      let j : Here image at (laid rs ++ laid qs) z = rw (laid_append rs qs) at h in
      ⊎_elim
      (λ u. stand c (right_left s rs qs g) (laid qs ++ z) place d at (cut (laid rs) (laid qs) j) m u)
      (λ u. stand b (right_right s rs qs g) z place d (at + length (laid rs)) (skip (laid rs) (laid qs) j) m u)
      (in_both m (marks c place d at) (marks b place d (at + length (laid rs))) i)
  stand (Spells.dense {rs} {qs} c b) g z place d at h m i =
      let j : Here image at (laid rs ++ laid qs) z = rw (laid_append rs qs) at h in
      ⊎_elim
      (λ u. stand c (right_left s rs qs g) (laid qs ++ z) place d at (cut (laid rs) (laid qs) j) m u)
      (λ u. stand b (right_right s rs qs g) z place d (at + length (laid rs)) (skip (laid rs) (laid qs) j) m u)
      (in_both m (marks c place d at) (marks b place d (at + length (laid rs))) i)
  stand (Spells.pairs c) g z place d at h m i = stand c g z place d at h m i
