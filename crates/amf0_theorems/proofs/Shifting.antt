-- What is read of a part that stands further on in an input is what is read of the part alone, moved there.
use Rattle.std.specs.Prelude.{◌+◌, ◌-◌, ◌*◌, ◌≤◌, ◌≡◌, ◌++◌, Ok, Err, Some, None, Option}
use Rattle.wire.proofs.Kit.{ℕ, zero, suc, refl, sym, ap, ap₂, ◌∙◌, List, Bool, true, false, arith, length, get_or, length-append, leb, eqb}
use Rattle.wire.specs.Choice.{pick}
use Rattle.wire.specs.Number.{number}
use Rattle.wire.specs.Field.{to, bytes_at}
use Rattle.wire.proofs.Stands.{go_text, fits_both, bytes_both, both8, both16, both32, both64, both_text}
use Rattle.image.specs.declared.record.Record.TheVariants.{Key}
use Rattle.image.specs.Record.{moved}
use Rattle.image.specs.Due.{Due, end, stop, seen, due, ◌>>=◌, based, shifted, Ends}
use Rattle.image.specs.Due.Fact.{own}
use Rattle.amf0.specs.declared.type_marker.TypeMarker.{TypeMarker}
use Rattle.amf0.specs.declared.type_marker.TypeMarker.TheVariants as M
use Rattle.amf0.specs.declared.read.Follow.{Follow}
use Rattle.amf0.specs.declared.read.Follow.TheVariants.{Nothing, Pairs, Values}
use Rattle.amf0.specs.Marker.{marker_of}
use Rattle.amf0.specs.Fields.{fields_at, behind, got_fields, Fields, fields_to}
use Rattle.amf0.specs.Reading.{items, pair, pairs, follow, own_at, value}
use Rattle.image.proofs.Kept.{ends_kept}
use Rattle.amf0.proofs.Reasons.{Named, kept}
use Rattle.wire.specs.Answer.{denied}

bind_moves : (a : ℕ) (d : Due) (k l : ℕ → Due) → ((n : ℕ) → Ends d n → k (a + n) ≡ shifted a (l n)) → shifted a d >>= k ≡ shifted a (d >>= l)
bind_moves a (end n) k l h = h n refl
bind_moves a (stop w p) k l h = refl
bind_moves a (seen fact d) k l h = ap (seen fact) (bind_moves a d k l h)
bind_moves a (due r p d) k l h = ap (due (moved a r) (a + p)) (bind_moves a d k l h)

pick_both : {A B : Type 0} (P : A → B → Type 0) (t : Bool) {d e : A} {f g : B} → P d f → P e g → P (pick t d e) (pick t f g)
pick_both P true h i = h
pick_both P false h i = i

moved_fields : ℕ → Fields → Fields
moved_fields a (Ok x) = fields_to (moved a x.0) x.1 (to (a + x.2.at))
moved_fields a (Err r) = denied r.answer (a + r.place)

module _ (x s : List ℕ) where
  Same : Fields → Fields → Type 0
  Same f g = f ≡ moved_fields (length x) g

  fields_move : (p : ℕ) (k : TypeMarker) → fields_at (x ++ s) (length x + p) k ≡ moved_fields (length x) (fields_at s p k)
  unfolding fields_at moved_fields Same
  fields_move p M.Number = both64 Same denied denied x s p _ _ (λ h. refl) (λ h. refl)
  fields_move p M.Boolean = both8 Same denied denied x s p _ _ (λ h. refl) (λ h. refl)
  fields_move p M.String = both_text Same denied denied x s p 2 _ _ (λ n h. refl) (λ a q. refl)
  fields_move p M.Object = refl
  fields_move p M.Null = refl
  fields_move p M.Undefined = refl
  fields_move p M.Reference = both16 Same denied denied x s p _ _ (λ h. refl) (λ h. refl)
  fields_move p M.EcmaArray = both32 Same denied denied x s p _ _ (λ h. refl) (λ h. refl)
  fields_move p M.StrictArray =
      both32 Same denied denied x s p _ _
      (λ h. rw (fits_both x s (p + 4)) (pick_both Same (leb (p + 4 + number (bytes_at 4 s p)) (length s)) refl refl)) (λ h. refl)
  fields_move p M.Date =
      both64 Same denied denied x s p _ _ (λ h. both16 Same denied denied x s (p + 8) _ _ (λ h. refl) (λ h. refl)) (λ h. refl)
  fields_move p M.LongString = both_text Same denied denied x s p 4 _ _ (λ n h. refl) (λ a q. refl)
  fields_move p M.Unsupported = refl
  fields_move p M.Xml = both_text Same denied denied x s p 4 _ _ (λ n h. refl) (λ a q. refl)
  fields_move p M.TypedObject = both_text Same denied denied x s p 2 _ _ (λ n h. refl) (λ a q. refl)
  fields_move p M.Amf3 = refl

  behind_moves : (at p : ℕ) (t : Option TypeMarker) → behind (x ++ s) (length x + at) (length x + p) t ≡ moved_fields (length x) (behind s at p t)
  unfolding moved_fields
  behind_moves at p (Some k) = fields_move p k
  behind_moves at p None = refl

  -- the bytes from one place to another
  row_moves : (at q : ℕ) → bytes_at (length x + q - (length x + at)) (x ++ s) (length x + at) ≡ bytes_at (q - at) s at
  row_moves at q =
      let long : length x + q - (length x + at) ≡ q - at = omega arith in
      ap (λ w. bytes_at w (x ++ s) (length x + at)) long ∙ bytes_both x s at (q - at)

  Moved : Due → Due → Type 0
  Moved d e = d ≡ shifted (length x) e

  -- the pairs past the end of an input, with any fuel
  pairs_out : (u : ℕ → Due) (y : List ℕ) (fuel at : ℕ) → length y ≤ at → pairs u y fuel at ≡ stop 2 at
  unfolding pairs
  pairs_out u y zero at h = refl
  pairs_out u y (suc fuel) at h = go_text (λ d. d ≡ stop 2 at) stop y at 2 _
      (λ n e i v. absurd (omega arith)) (λ i. refl) (λ n e i j. absurd (omega arith)) (λ n e i v. absurd (omega arith))

  module _ (v u : ℕ → Due) (on : (q n : ℕ) → q ≤ length s → Ends (u q) n → q ≤ n) (g : (at : ℕ) → v (length x + at) ≡ shifted (length x) (u at)) where
    items_move : (n at : ℕ) → items v n (length x + at) ≡ shifted (length x) (items u n at)
    unfolding items
    items_move zero at = refl
    items_move (suc n) at = rw (g at) (bind_moves (length x) (u at) (items v n) (items u n) λ q e. items_move n q)

    pair_moves : (k l : ℕ → Due) (at p n q : ℕ) → q ≤ length s → ((m : ℕ) → q ≤ m → k (length x + m) ≡ shifted (length x) (l m))
        → pair v k (x ++ s) (length x + at) (length x + p) n (length x + q) ≡ shifted (length x) (pair u l s at p n q)
    unfolding pair Moved
    pair_moves k l at p n q h f = both8 Moved stop stop x s q _ _
        (λ i. pick_both Moved (eqb (get_or s q 0) 9) refl
        (rw (g q) (ap (due (Key (length x + p) n) (length x + at)) (bind_moves (length x) (u q) k l λ m e. f m (on q m h e)))))
        (λ i. refl)

    pairs_move : (f h at : ℕ) → length s ≤ at + f → length s ≤ at + h → pairs v (x ++ s) f (length x + at) ≡ shifted (length x) (pairs u s h at)
    unfolding pairs Moved
    pairs_move zero h at i j = sym (ap (shifted (length x)) (pairs_out u s h at (omega arith)))
    pairs_move (suc f) zero at i j = pairs_out v (x ++ s) (suc f) (length x + at) (omega (arith, length-append x s))
    pairs_move (suc f) (suc h) at i j = both_text Moved stop stop x s at 2 _ _
        (λ n l. pair_moves (pairs v (x ++ s) f) (pairs u s h) at (at + 2) n (at + 2 + n) l λ m k. pairs_move f h m (omega arith) (omega arith)) (λ a p. refl)

    follow_moves : (f : Follow) (at : ℕ) → follow v (x ++ s) f (length x + at) ≡ shifted (length x) (follow u s f at)
    unfolding follow
    follow_moves Nothing at = refl
    follow_moves Pairs at = pairs_move (length (x ++ s)) (length s) at (omega (arith, length-append x s)) (omega arith)
    follow_moves (Values n) at = items_move n at

    node_moves : (left at : ℕ) (y : Fields)
        → got_fields stop (moved_fields (length x) y) (λ r f q. seen (own_at left (x ++ s) (length x + at) q) (due r (length x + at) (follow v (x ++ s) f q)))
        ≡ shifted (length x) (got_fields stop y λ r f q. seen (own_at left s at q) (due r at (follow u s f q)))
    unfolding moved_fields
    node_moves left at (Ok y) =
        ap₂ (λ w d. seen (own left w) (due (moved (length x) y.0) (length x + at) d)) (row_moves at y.2.at) (follow_moves y.1 y.2.at)
    node_moves left at (Err r) = refl

pub shift : (left : ℕ) (x s : List ℕ) (at : ℕ) → value left (x ++ s) (length x + at) ≡ shifted (length x) (value left s at)
unfolding value Moved
shift zero x s at = both8 (Moved x s) stop stop x s at _ _ (λ l. refl) (λ l. refl)
shift (suc left) x s at = both8 (Moved x s) stop stop x s at _ _
    (λ l. rw (behind_moves x s at (at + 1) (marker_of (get_or s at 0)))
    (node_moves x s (value left (x ++ s)) (value left s) (λ q n h e. omega (arith, (ends_kept Named s (3 * q) n (value left s q) (kept left s q h) e).0))
    (shift left x s) left at (behind s at (at + 1) (marker_of (get_or s at 0)))))
    (λ l. refl)

-- the places alone, and then the end
pub based_shifted : (a : ℕ) (d : Due) → shifted a d ≡ based a d >>= λ n. end (a + n)
based_shifted a (end n) = refl
based_shifted a (stop w p) = refl
based_shifted a (seen fact d) = ap (seen fact) (based_shifted a d)
based_shifted a (due r p d) = ap (due (moved a r) (a + p)) (based_shifted a d)
