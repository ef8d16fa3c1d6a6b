-- A value's own bytes put out, and what stands before the value of a pair: the laws that the writer's functions cite.
use Rattle.std.specs.Prelude.{◌+◌, ◌≤◌, ◌<◌, ◌≡◌, Option, Result, Ok, Err, Some, None}
use Rattle.wire.proofs.Kit.{ℕ, refl, sym, ap, ◌∙◌, List, false, arith, length, get_or}
use Rattle.wire.specs.Field.{to, u8_at, got_to}
use Rattle.wire.specs.declared.cursor.Cursor.{Cursor}
use Rattle.wire.proofs.Laws.{same_err, false_true}
use Rattle.image.specs.declared.record.Record.{Record}
use Rattle.image.specs.declared.writing.Row.{Row}
use Rattle.image.specs.Kind as kind
use Rattle.image.specs.Record.{layout_of}
use Rattle.image.specs.Taking.{body_at, record_at, Taken, taken_to}
use Rattle.image.specs.Out.{Out, end, stop, row, most, row_in, pour, poured, Grown}
use Rattle.image.proofs.Found.{found_kind}
use Rattle.image.proofs.Pouring.{pour_stop, row_in_lem, row_then, row_halt}
use Rattle.amf0.specs.declared.write.Rest.{Rest}
use Rattle.amf0.specs.Shape.{Shape}
use Rattle.amf0.specs.Shape as S
use Rattle.amf0.specs.declared.write.Before.{Before}
use Rattle.amf0.specs.Writing.{shape_of, valued, paired, among, kinds}
use Rattle.amf0.specs.Code.{longest, Begun, then_of, of_record, opened, Owned, keyed, Paired, key_to, end_to}
use Rattle.amf0.proofs.Putting.{known_bytes, Shaped, shaped as shape_kind, known_shape}
use Rattle.wire.specs.Limit as limit
use Rattle.wire.specs.Answer.{Verdict, denied}
use Rattle.std.specs.Result.{IsErrAnd}
use Rattle.std.proofs.lemmas.Result.{err_from_is_err_and}
use Rattle.image.specs.Due.{Step, went_to}

-- the record behind a kind
pub record_body : (image : List ℕ) (at k : ℕ) (d : Cursor) → u8_at image at ≡ got_to k d → record_at image at ≡ body_at k image d.at
unfolding record_at
record_body image at k d e = rw e

pub record_none : (image : List ℕ) (at a p : ℕ) → u8_at image at ≡ denied a p → record_at image at ≡ None
unfolding record_at
record_none image at a p e = rw e

module _ (text : List ℕ) (at count : ℕ) (out : List ℕ) where
  -- ---- a value's own bytes

  -- its row is put out or refused
  pub owned_row : (r : Record) (w : Row) (f : Rest) {t : Taken} {x : Step} {o : List ℕ} {e : Cursor} {high : ℕ} → t ≡ taken_to r e → shape_of r ≡ S.Value w f
      → count ≤ most → high ≤ count + longest → poured x o ≡ pour (row_in count text w at (end e.at)) count out → Grown x e.at high
      → Owned (then_of x f) o t text at count out
  owned_row r w f {t} {x} {o} {e} {high} found shaped m l put grown = go x put grown
    where
      go : (y : Step) → poured y o ≡ pour (row_in count text w at (end e.at)) count out → Grown y e.at high → Owned (then_of y f) o t text at count out
      go (Ok x) p g =
          let b = g.bounds x.0 x.1 refl in (
            λ k. rw (found, shaped) (row_then text w at e.at count out (known_shape r shaped).1 m (k f) p),
            omega arith,
            (r, found ∙ ap (λ (q : ℕ). taken_to r (to q)) (sym b.0)),
          )
      go (Err x) p g = λ k. rw (found, shaped) (row_halt text w at e.at count out (known_shape r shaped).1 m (k f) p)

  -- three numbers are its row
  pub owned_numbers : (r : Record) (f : Rest) {w : Row} {t : Taken} {x : Step} {y : Begun} {o : List ℕ} {e : Cursor} → y ≡ then_of x f → t ≡ taken_to r e → shape_of r ≡ S.Value w f
      → count ≤ most → ((s : List ℕ) (p : ℕ) → poured x o ≡ pour (row_in count s w p (end e.at)) count out) → Grown x e.at (count + 24)
      → Owned y o t text at count out
  owned_numbers r f {w} y found shaped m put grown = rw y (owned_row r w f found shaped m (omega arith) (put text at) grown)

  -- a text behind its length is its row
  pub owned_text : (r : Record) (f : Rest) {w : Row} {t : Taken} {x : Step} {y : Begun} {o : List ℕ} {e : Cursor} → y ≡ then_of x f → t ≡ taken_to r e → shape_of r ≡ S.Value w f
      → (length text ≤ limit.bytes) × (count ≤ most) → poured x o ≡ pour (row_in count text w at (end e.at)) count out → Grown x e.at (count + 24 + length text)
      → Owned y o t text at count out
  owned_text r f {w} y found shaped m put grown = rw y (owned_row r w f found shaped m.1 (omega arith) put grown)

  -- what is no record's body
  pub owned_unread : {A : Type 0} (x : Begun) {y : Option A} {v : Verdict} {t : Taken} → IsErrAnd x (λ w. w ≡ v) → Err v ≡ of_record at y → (y ≡ None → t ≡ None)
      → Owned x out t text at count out
  owned_unread x {y = None} h e n = let p = err_from_is_err_and x h in rw (p.1, p.2, same_err e) (λ k. rw (n refl) (pour_stop count out 6 at))
  owned_unread x {y = Some y} h e n = absurd (cc)

  -- there is no record
  pub owned_bad : (x : Begun) {t : Taken} → x ≡ denied 6 at → t ≡ None → Owned x out t text at count out
  owned_bad x f e = rw f (λ k. rw e (pour_stop count out 6 at))

  -- ---- a key, or the end of the pairs

  pub paired_key : (r : Record) (w : Row) {t : Taken} {c : Cursor} {n : ℕ} {o : List ℕ} {e : Cursor} {high : ℕ} → t ≡ taken_to r e → shape_of r ≡ S.Key w
      → count ≤ most → high ≤ count + longest → poured (went_to c n) o ≡ pour (row_in count text w at (end e.at)) count out → Grown (went_to c n) e.at high
      → Paired (key_to c n) o t text at count out
  paired_key r w {t} {c} {n} {o} {e} {high} found shaped m l put grown =
      let b = grown.bounds c n refl in (
        λ k. rw (found, shaped) (row_then text w at e.at count out (known_shape r shaped).1 m k put),
        omega arith,
        (r, found ∙ ap (λ (q : ℕ). taken_to r (to q)) (sym b.0)),
      )

  pub paired_end : (r : Record) (w : Row) {t : Taken} {c : Cursor} {n : ℕ} {o : List ℕ} {e : Cursor} {high : ℕ} → t ≡ taken_to r e → shape_of r ≡ S.End w
      → count ≤ most → high ≤ count + longest → poured (went_to c n) o ≡ pour (row_in count text w at (end e.at)) count out → Grown (went_to c n) e.at high
      → Paired (end_to c n) o t text at count out
  paired_end r w {t} {c} {n} {o} {e} {high} found shaped m l put grown =
      let b = grown.bounds c n refl in (
        λ k. rw (found, shaped) (sym (put ∙ rw (row_in_lem text w at e.at count out (known_shape r shaped).1 m))),
        omega arith,
        (r, found ∙ ap (λ (q : ℕ). taken_to r (to q)) (sym b.0)),
      )

  -- the row of either is refused
  pub paired_key_halt : (r : Record) (w : Row) (x : Result Before Verdict) {v : Verdict} {t : Taken} {o : List ℕ} {e : Cursor} → IsErrAnd x (λ u. u ≡ v) → t ≡ taken_to r e
      → shape_of r ≡ S.Key w → count ≤ most → poured (Err v) o ≡ pour (row_in count text w at (end e.at)) count out → Paired x o t text at count out
  paired_key_halt r w x {e = e} h found shaped m put =
      let p = err_from_is_err_and x h in rw (p.1, p.2) (λ k. rw (found, shaped) (row_halt text w at e.at count out (known_shape r shaped).1 m k put))

  pub paired_end_halt : (r : Record) (w : Row) (x : Result Before Verdict) {v : Verdict} {t : Taken} {o : List ℕ} {e : Cursor} → IsErrAnd x (λ u. u ≡ v) → t ≡ taken_to r e
      → shape_of r ≡ S.End w → count ≤ most → poured (Err v) o ≡ pour (row_in count text w at (end e.at)) count out → Paired x o t text at count out
  paired_end_halt r w x {e = e} h found shaped m put =
      let p = err_from_is_err_and x h in
      rw (p.1, p.2) (λ k. rw (found, shaped) (sym (put ∙ rw (row_in_lem text w at e.at count out (known_shape r shaped).1 m))))

  -- what is no record's body
  pub paired_unread : {A : Type 0} (x : Result Before Verdict) {y : Option A} {v : Verdict} {t : Taken} → IsErrAnd x (λ w. w ≡ v) → Err v ≡ of_record at y
      → (y ≡ None → t ≡ None) → Paired x out t text at count out
  paired_unread x {y = None} h e n = let p = err_from_is_err_and x h in rw (p.1, p.2, same_err e) (λ k. rw (n refl) (pour_stop count out 6 at))
  paired_unread x {y = Some y} h e n = absurd (cc)

  -- ---- a record of another kind

  module _ (image : List ℕ) (h : (i : ℕ) → get_or image i 0 < 256) (mark : ℕ) (d : Cursor) (byte : u8_at image at ≡ got_to mark d) where
    no_value : (j : ℕ) (x : Shape) → Shaped j x → among kinds j ≡ false → (k : Row → Rest → Out) → valued at x k ≡ stop 6 at
    no_value j (S.Value w f) y n k = absurd (false_true (sym n ∙ y.0))
    no_value j (S.Key w) y n k = refl
    no_value j (S.End w) y n k = refl
    no_value j S.Other y n k = refl

    pub owned_other : (x : Begun) → x ≡ denied 6 at → among kinds mark ≡ false → Owned x out (record_at image at) text at count out
    owned_other x f n = rw f (go (record_at image at) refl)
      where
        go : (t : Taken) → record_at image at ≡ t → (k : Rest → ℕ → Out) → pour (opened t text at k) count out ≡ poured (denied 6 at) out
        go None e k = pour_stop count out 6 at
        go (Some v1) e k =
            let f = found_kind image (known_bytes image h) at v1.0 v1.1 e mark d byte in
            ap (λ (x : Out). pour x count out)
            (no_value (layout_of v1.0).kind (shape_of v1.0) (shape_kind v1.0) (ap (among kinds) (sym f) ∙ n) (λ w g. row text w at (k g v1.1.at)))
            ∙ pour_stop count out 6 at

    no_pair : (j : ℕ) (x : Shape) → Shaped j x → (j ≡ kind.key → ⊥) → (j ≡ kind.object_end → ⊥) → (k l : Row → Out) → paired at x k l ≡ stop 6 at
    no_pair j (S.Value w f) y m n k l = refl
    no_pair j (S.Key w) y m n k l = absurd (m y.0)
    no_pair j (S.End w) y m n k l = absurd (n y.0)
    no_pair j S.Other y m n k l = refl

    pub paired_other : (x : Result Before Verdict) → x ≡ denied 6 at → (mark ≡ kind.key → ⊥) → (mark ≡ kind.object_end → ⊥) → Paired x out (record_at image at) text at count out
    paired_other x f m n = rw f (go (record_at image at) refl)
      where
        go : (t : Taken) → record_at image at ≡ t → (k : ℕ → Out) → pour (keyed t text at k) count out ≡ poured (denied 6 at) out
        go None e k = pour_stop count out 6 at
        go (Some v1) e k =
            let f = found_kind image (known_bytes image h) at v1.0 v1.1 e mark d byte in
            ap (λ (x : Out). pour x count out)
            (no_pair (layout_of v1.0).kind (shape_of v1.0) (shape_kind v1.0) (λ g. m (f ∙ g)) (λ g. n (f ∙ g)) (λ w. row text w at (k v1.1.at)) (λ w. row text w at (end v1.1.at)))
            ∙ pour_stop count out 6 at
