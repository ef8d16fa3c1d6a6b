-- A reading goes forward and ends inside the input, lays at most three bytes for each byte that it reads, and is refused with 2, 3 or 5, at a
-- place inside the input.
use Rattle.std.specs.Prelude.{◌+◌, ◌*◌, ◌≤◌, ◌<◌, ◌≢◌, Ok, Err, Some, None, Option}
use Rattle.wire.proofs.Kit.{ℕ, zero, suc, List, le_refl, arith, length, get_or, leb, eqb}
use Rattle.wire.specs.Number.{number}
use Rattle.wire.specs.Field.{bytes_at, text_at, got_text}
use Rattle.wire.proofs.Laws.{picked}
use Rattle.wire.proofs.Stands.{go8, go16, go32, go64, go_text}
use Rattle.image.specs.declared.record.Record.{Record}
use Rattle.image.specs.declared.record.Record.TheVariants as R
use Rattle.image.specs.Record.{bytes_of}
use Rattle.image.specs.Due.{Due, Fact, stop, seen, due, ◌>>=◌}
use Rattle.image.proofs.Kept.{Kept, fewer, bind_kept}
use Rattle.amf0.specs.declared.read.Follow.{Follow}
use Rattle.amf0.specs.declared.read.Follow.TheVariants.{Nothing, Pairs, Values}
use Rattle.amf0.specs.Marker.{markers, marker_of}
use Rattle.amf0.specs.Fields.{fields_at, got_fields, gives, shut, behind, Fields}
use Rattle.amf0.specs.Reading.{items, pair, pairs, follow, own_at, value}
use Rattle.amf0.proofs.Rows.{Each, ◌▸◌, each_marker}
use Rattle.wire.specs.Answer.{denied}
use Rattle.amf0.specs.declared.type_marker.TypeMarker.{TypeMarker}

-- an answer that refuses a reading: 2, 3 or 5
pub record Named (a : ℕ) : Type 0 where
  pub low : 2 ≤ a
  pub high : a ≤ 5
  pub other : a ≢ 4

pub two : Named 2
two = record { low = omega arith; high = omega arith; other = λ e. omega arith }

pub three : Named 3
three = record { low = omega arith; high = omega arith; other = λ e. omega arith }

five : Named 5
five = record { low = omega arith; high = omega arith; other = λ e. omega arith }

-- ---- the fields of a marker

abbrev pub KeptFields : List ℕ → ℕ → Fields → Type 0
KeptFields s at (Ok x) = (3 * at + length (bytes_of x.0) ≤ 3 * x.2.at) × (x.2.at ≤ length s)
KeptFields s at (Err r) = Named r.answer × (r.place ≤ length s)

module _ (s : List ℕ) (at : ℕ) (l : at < length s) where
  Entry : ℕ → (Option TypeMarker) → Type 0
  Entry m t = KeptFields s at (behind s at (at + 1) t)

  text_kept : (w : ℕ) (q : ℕ → ℕ → Record) (f : Follow) → ((p n : ℕ) → length (bytes_of (q p n)) ≤ 3 + 3 * w)
      → KeptFields s at (got_text denied (text_at w s (at + 1)) λ p n e. gives (q p n) f e)
  text_kept w q f h = go_text (KeptFields s at) denied s (at + 1) w _
      (λ n e i u. (omega (arith, h (at + 1 + w) n), i)) (λ i. (two, omega arith)) (λ n e i j. (two, i)) (λ n e i u. (three, omega arith))

  entries : Each Entry markers
  unfolding Entry fields_at bytes_of
  entries =
      go64 (KeptFields s at) denied s (at + 1) _ (λ i. (omega arith, i)) (λ i. (two, omega arith))
      ▸ go8 (KeptFields s at) denied s (at + 1) _ (λ i. (omega arith, omega arith)) (λ i. (two, omega arith))
      ▸ text_kept 2 R.Text Nothing (λ p n. omega arith)
      ▸ (omega arith, omega arith)
      ▸ (three, omega arith)
      ▸ (omega arith, omega arith)
      ▸ (omega arith, omega arith)
      ▸ go16 (KeptFields s at) denied s (at + 1) _ (λ i. (omega arith, i)) (λ i. (two, omega arith))
      ▸ go32 (KeptFields s at) denied s (at + 1) _ (λ i. (omega arith, i)) (λ i. (two, omega arith))
      ▸ (three, omega arith)
      ▸ go32 (KeptFields s at) denied s (at + 1) _
      (λ i. picked (KeptFields s at) (leb (at + 1 + 4 + number (bytes_at 4 s (at + 1))) (length s)) _ _ (λ j. (omega arith, i)) (λ j. (two, omega arith)))
      (λ i. (two, omega arith))
      ▸ go64 (KeptFields s at) denied s (at + 1) _
      (λ i. go16 (KeptFields s at) denied s (at + 1 + 8) _ (λ j. (omega arith, j)) (λ j. (two, i))) (λ i. (two, omega arith))
      ▸ text_kept 4 R.Text Nothing (λ p n. omega arith)
      ▸ (omega arith, omega arith)
      ▸ (three, omega arith)
      ▸ text_kept 4 R.Xml Nothing (λ p n. omega arith)
      ▸ text_kept 2 R.TypedObject Pairs (λ p n. omega arith)
      ▸ (omega arith, omega arith)
      ▸ tt

  pub fields_kept : KeptFields s at (behind s at (at + 1) (marker_of (get_or s at 0)))
  unfolding Entry fields_at bytes_of
  fields_kept = each_marker Entry entries (λ m h. (omega arith, omega arith)) (get_or s at 0)

-- ---- values, and what follows them

module _ (s : List ℕ) (u : ℕ → Due) (g : (at : ℕ) → at ≤ length s → Kept Named s (3 * at) (u at)) where
  items_kept : (n at : ℕ) → at ≤ length s → Kept Named s (3 * at) (items u n at)
  unfolding items
  items_kept zero at h = (le_refl _, h)
  items_kept (suc n) at h = bind_kept Named s (3 * at) (u at) (items u n) (g at h) λ q i. items_kept n q

  pair_kept : (k : ℕ → Due) (at p n q : ℕ) → at + 2 ≤ q → q ≤ length s → ((m : ℕ) → q ≤ m → m ≤ length s → Kept Named s (3 * m) (k m))
      → Kept Named s (3 * at) (pair u k s at p n q)
  unfolding pair bytes_of
  pair_kept k at p n q h i f = go8 (Kept Named s (3 * at)) stop s q _
      (λ l. picked (Kept Named s (3 * at)) (eqb (get_or s q 0) 9) _ _ (λ e. (i, (omega arith, omega arith)))
      (λ e. (omega arith, fewer Named s (3 * at + 6) (3 * q) (u q >>= k) (omega arith) (bind_kept Named s (3 * q) (u q) k (g q i) λ m j. f m (omega arith)))))
      (λ l. (omega arith, two, i))

  pairs_kept : (fuel at : ℕ) → length s ≤ at + fuel → at ≤ length s → Kept Named s (3 * at) (pairs u s fuel at)
  unfolding pairs
  pairs_kept zero at h i = (omega arith, two, i)
  pairs_kept (suc fuel) at h i = go_text (Kept Named s (3 * at)) stop s at 2 _
      (λ n e j v. pair_kept (pairs u s fuel) at (at + 2) n (at + 2 + n) (omega arith) j λ m l. pairs_kept fuel m (omega arith))
      (λ j. (omega arith, two, i)) (λ n e j l. (omega arith, two, j)) (λ n e j v. (omega arith, three, omega arith))

  follow_kept : (f : Follow) (at : ℕ) → at ≤ length s → Kept Named s (3 * at) (follow u s f at)
  unfolding follow
  follow_kept Nothing at h = (le_refl _, h)
  follow_kept Pairs at h = pairs_kept (length s) at (omega arith) h
  follow_kept (Values n) at h = items_kept n at h

  node_kept : (look : ℕ → Fact) (at : ℕ) (x : Fields) → at ≤ length s → KeptFields s at x
      → Kept Named s (3 * at) (got_fields stop x λ r f q. seen (look q) (due r at (follow u s f q)))
  node_kept look at (Ok x) h k = (h, fewer Named s (3 * at + length (bytes_of x.0)) (3 * x.2.at) (follow u s x.1 x.2.at) k.0 (follow_kept x.1 x.2.at k.1))
  node_kept look at (Err r) h k = (omega arith, k.0, k.1)

-- where no level is left
shut_named : (t : (Option TypeMarker)) → Named (shut t)
shut_named (Some k) = five
shut_named None = three

pub kept : (left : ℕ) (s : List ℕ) (at : ℕ) → at ≤ length s → Kept Named s (3 * at) (value left s at)
unfolding value
kept zero s at h = go8 (Kept Named s (3 * at)) stop s at _ (λ l. (omega arith, shut_named (marker_of (get_or s at 0)), h)) (λ l. (omega arith, two, h))
kept (suc left) s at h = go8 (Kept Named s (3 * at)) stop s at _
    (λ l. node_kept s (value left s) (kept left s) (own_at left s at) at (behind s at (at + 1) (marker_of (get_or s at 0))) h (fields_kept s at l)) (λ l. (omega arith, two, h))
