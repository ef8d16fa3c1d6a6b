-- The index of an image is refused where, and with what, the writing of that image is: whatever the image is.
use Rattle.std.specs.Prelude.{◌+◌, ◌-◌, ◌≤◌, ◌<◌, ◌≡◌, ◌≢◌, Some, None}
use Rattle.wire.proofs.Kit.{ℕ, zero, suc, refl, ap, List, Bool, true, false, sub-one, arith, leb, length, lt-leb, ne_eqb}
use Rattle.wire.specs.Choice.{pick}
use Rattle.wire.specs.Field.{u8_at}
use Rattle.wire.specs.Limit as limit
use Rattle.wire.specs.Number.{Bytes}
use Rattle.wire.specs.declared.cursor.Cursor.{Cursor}
use Rattle.wire.proofs.Laws.{picked}
use Rattle.image.specs.declared.record.Record.{Record}
use Rattle.image.specs.declared.record.Record.TheVariants as R
use Rattle.image.specs.declared.writing.Row.{Row}
use Rattle.image.specs.Taking.{record_at, Taken, taken_to}
use Rattle.image.specs.Out.{Out, end, stop, put, ◌>>=◌, row, named_at, named_of}
use Rattle.image.proofs.Found.{found_stood}
use Rattle.image.proofs.Laws.{size_some}
use Rattle.image.proofs.Pouring.{named_none}
use Rattle.amf0.specs.declared.write.Rest.{Rest as After}
use Rattle.amf0.specs.declared.write.Rest.TheVariants as WR
use Rattle.amf0.specs.Shape.{Shape}
use Rattle.amf0.specs.Shape as S
use Rattle.amf0.specs.Standard.{short_most}
use Rattle.amf0.specs.Writing.{items, pairs, dense, rest as following, value as written, whole}
use Rattle.amf0.specs.Writing.{shape_of, value_at, taken, valued, paired}
use Rattle.index.specs.declared.walk.Rest.{Rest}
use Rattle.index.specs.declared.walk.Rest.TheVariants.{Nothing, Pairs, Dense, Values}
use Rattle.index.specs.declared.walk.Role.{Role}
use Rattle.index.specs.Mark.{mark, mark_bytes}
use Rattle.index.specs.Index.{alone, root_of, keys_of}
use Rattle.index.specs.Keys.{role_of, own_by, own_in, key_by, key_in, own_of, pair_at, turn_of, turned, owned, rest, value}

pub cases : {P : Type 0} (b : Bool) → (b ≡ true → P) → (b ≡ false → P) → P
cases true f g = f refl
cases false f g = g refl

-- ---- two walks that go alike

-- they end at the same place, of which P holds, or stop with the same answer at the same place, whatever each puts out
pub data Alike (P : ℕ → Type 0) : Out → Out → Type 0 where
  ends : {n : ℕ} → P n → Alike P (end n) (end n)
  stops : {a p : ℕ} → Alike P (stop a p) (stop a p)
  fore : {b : List ℕ} {d e : Out} → Alike P d e → Alike P (put b d) e
  aft : {b : List ℕ} {d e : Out} → Alike P d e → Alike P d (put b e)

pub both : {P Q : ℕ → Type 0} {d e : Out} (j k : ℕ → Out) → Alike P d e → ((n : ℕ) → P n → Alike Q (j n) (k n)) → Alike Q (d >>= j) (e >>= k)
both j k (Alike.ends {n} p) f = f n p
both j k Alike.stops f = Alike.stops
both j k (Alike.fore a) f = Alike.fore (both j k a f)
both j k (Alike.aft a) f = Alike.aft (both j k a f)

pub wider : {P Q : ℕ → Type 0} {d e : Out} → ((n : ℕ) → P n → Q n) → Alike P d e → Alike Q d e
wider f (Alike.ends {n} p) = Alike.ends (f n p)
wider f Alike.stops = Alike.stops
wider f (Alike.fore a) = Alike.fore (wider f a)
wider f (Alike.aft a) = Alike.aft (wider f a)

-- ---- records

pub data Due : After → Rest → Type 0 where
  d_none : Due WR.Nothing Nothing
  d_pairs : Due WR.Pairs Pairs
  d_dense : Due WR.Dense Dense
  d_values : (n : ℕ) → Due (WR.Values n) (Values n)

pub data Kin (s : List ℕ) : Shape → Role → Type 0 where
  k_value : {w : Row} {f : After} {p n : ℕ} {due : Rest} → named_of s w ≡ named_at s p n → Due f due → Kin s (S.Value w f) (Role.Value p n due)
  k_key : {w : Row} {p n : ℕ} → named_of s w ≡ named_at s p n → Kin s (S.Key w) (Role.Key p n)
  k_last : {w : Row} → named_of s w ≡ true → Kin s (S.End w) Role.End
  k_file : {p n : ℕ} → Kin s S.Other (Role.File p n)
  k_other : Kin s S.Other Role.Other

kin : (s : List ℕ) (r : Record) → Kin s (shape_of r) (role_of r)
kin s (R.Number n) = Kin.k_value refl Due.d_none
kin s (R.Boolean b) = Kin.k_value refl Due.d_none
kin s (R.Text p n) = picked (λ x. Kin s x (Role.Value p n Nothing)) (leb n short_most) _ _ (λ _. Kin.k_value refl Due.d_none) (λ _. Kin.k_value refl Due.d_none)
kin s R.Object = Kin.k_value refl Due.d_pairs
kin s R.Null = Kin.k_value refl Due.d_none
kin s R.Undefined = Kin.k_value refl Due.d_none
kin s (R.Reference n) = Kin.k_value refl Due.d_none
kin s (R.EcmaArray n) = Kin.k_value refl Due.d_dense
kin s R.ObjectEnd = Kin.k_last (named_none s)
kin s (R.StrictArray n) = Kin.k_value refl (Due.d_values n)
kin s (R.Date n present zone) = Kin.k_value refl Due.d_none
kin s R.Unsupported = Kin.k_value refl Due.d_none
kin s (R.Xml p n) = Kin.k_value refl Due.d_none
kin s (R.TypedObject p n) = Kin.k_value refl Due.d_pairs
kin s (R.Key p n) = Kin.k_key refl
kin s (R.Packet h m) = Kin.k_other
kin s (R.Header p n f) = Kin.k_other
kin s (R.Message p n q m) = Kin.k_other
kin s (R.Lso l p n) = Kin.k_file

-- ---- the walks

-- the place behind a record
pub record Behind (image : List ℕ) (at : ℕ) (c : Cursor) : Type 0 where
  pub from : at + 1 ≤ c.at
  pub fits : c.at ≤ length image

pub behind : (image : List ℕ) → Bytes image → (at : ℕ) (r : Record) (c : Cursor) → record_at image at ≡ taken_to r c → Behind image at c
behind image known at r c e =
    let h = found_stood image known at r c e in
    record { from = omega (arith, h.next, size_some r); fits = h.within }

module _ (image s : List ℕ) (known : Bytes image) where
  nothing_past : (at : ℕ) → length image ≤ at → record_at image at ≡ None
  unfolding record_at u8_at
  nothing_past at h = rw (lt-leb (at + 1) (length image) (omega arith))

  -- past a place, within the image
  unfoldable pub Ahead : ℕ → ℕ → Type 0
  Ahead at n = (at < n) × (n ≤ length image)

  unfoldable pub From : ℕ → ℕ → Type 0
  From at n = (at ≤ n) × (n ≤ length image)

  module _ (v w : ℕ → Out) (inner : (at : ℕ) → at ≤ length image → Alike (Ahead at) (v at) (w at)) (place d : ℕ) where
    alike_items : (n f at : ℕ) → at ≤ length image → length image < f + at → Alike (From at) (rest v image s place d f (Values n) at) (items w image s n at)
    unfolding rest turn_of items Ahead From
    alike_items n zero at h g = absurd (omega arith)
    alike_items zero (suc f) at h g = Alike.ends {n = at} (omega arith, h)
    alike_items (suc n) (suc f) at h g =
        rw (ne_eqb (suc n) 0 (λ e. omega arith), sub-one (suc n))
        (both (rest v image s place d f (Values n)) (items w image s n) (inner at h)
        (λ m q. wider (λ k r. (omega arith, r.1)) (alike_items n f m q.1 (omega arith))))

    alike_pairs : (f g at : ℕ) → at ≤ length image → length image < f + at → length image ≤ g + at
        → Alike (From at) (rest v image s place d f Pairs at) (pairs w image s g at)
    unfolding rest turn_of pairs pair_at Ahead From row
    alike_pairs zero g at h m l = absurd (omega arith)
    alike_pairs (suc f) zero at h m l = rw (nothing_past at (omega arith)) Alike.stops
    alike_pairs (suc f) (suc g) at h m l =
        go (record_at image at) refl
        (λ n b. wider (λ k r. (omega arith, r.1)) (alike_pairs f g n b.1 (omega arith) (omega arith)))
      where
        by : (x : Shape) (y : Role) (c : Cursor) → at + 1 ≤ c.at → c.at ≤ length image → Kin s x y
            → ((n : ℕ) → (at + 1 ≤ n) × (n ≤ length image) → Alike (From at) (rest v image s place d f Pairs n) (pairs w image s g n))
            → Alike (From at)
            (turned at (key_by s Pairs true y c) (λ q t. v q >>= rest v image s place d f t)
            (λ q t. put (mark_bytes (mark d place at q)) (v q >>= rest v image s place d f t)))
            (paired at x (λ r. row s r at (w c.at >>= pairs w image s g)) (λ r. row s r at (end c.at)))
        by x y c b e (Kin.k_value q u) more = Alike.stops
        by x y c b e (Kin.k_key {p} {n} q) more =
            cases (named_at s p n)
            (λ t. rw (q, t)
            (Alike.fore (Alike.aft (both (rest v image s place d f Pairs) (pairs w image s g) (inner c.at e) (λ m u. more m (omega arith, u.1))))))
            (λ t. rw (q, t) Alike.stops)
        by x y c b e (Kin.k_last q) more = rw q (Alike.aft (Alike.ends {n = c.at} (omega arith, e)))
        by x y c b e Kin.k_file more = Alike.stops
        by x y c b e Kin.k_other more = Alike.stops

        go : (t : Taken) → record_at image at ≡ t → ((n : ℕ) → (at + 1 ≤ n) × (n ≤ length image) → Alike (From at) (rest v image s place d f Pairs n) (pairs w image s g n))
            → Alike (From at)
            (turned at (key_in s Pairs true t) (λ q y. v q >>= rest v image s place d f y)
            (λ q y. put (mark_bytes (mark d place at q)) (v q >>= rest v image s place d f y)))
            (taken at t λ r q. paired at (shape_of r) (λ x. row s x at (w q >>= pairs w image s g)) (λ x. row s x at (end q)))
        go (Some x) e more = let p = behind image known at x.0 x.1 e in by (shape_of x.0) (role_of x.0) x.1 p.from p.fits (kin s x.0) more
        go None e more = Alike.stops

    alike_dense : (f g k at : ℕ) → at ≤ length image → length image < f + at → length image < g + at
        → Alike (From at) (rest v image s place d f Dense at) (dense w image s g k at)
    unfolding rest turn_of dense Ahead From
    alike_dense zero g k at h m l = absurd (omega arith)
    alike_dense (suc f) zero k at h m l = absurd (omega arith)
    alike_dense (suc f) (suc g) k at h m l =
        cases (value_at image at)
        (λ t. rw t
        (Alike.aft (Alike.aft (both (rest v image s place d f Dense) (dense w image s g (k + 1)) (inner at h)
        (λ n q. wider (λ k r. (omega arith, r.1)) (alike_dense f g (k + 1) n q.1 (omega arith) (omega arith)))))))
        (λ t. rw t (alike_pairs (suc f) (length image) at h m (omega arith)))

    alike_rest : (a : After) (due : Rest) → Due a due → (at : ℕ) → at ≤ length image
        → Alike (From at) (rest v image s place d (suc (length image)) due at) (following w image s a at)
    unfolding following rest turn_of From
    alike_rest a due Due.d_none at h = Alike.ends {n = at} (omega arith, h)
    alike_rest a due Due.d_pairs at h = alike_pairs (suc (length image)) (length image) at h (omega arith) (omega arith)
    alike_rest a due Due.d_dense at h = alike_dense (suc (length image)) (suc (length image)) 0 at h (omega arith) (omega arith)
    alike_rest a due (Due.d_values n) at h = alike_items n (suc (length image)) at h (omega arith)

  pub alike_value : (left at : ℕ) → at ≤ length image → Alike (Ahead at) (value left image s at) (written left image s at)
  unfolding value written own_of Ahead From row
  alike_value zero at h = Alike.stops
  alike_value (suc left) at h = go (record_at image at) refl (alike_value left)
    where
      by : (x : Shape) (y : Role) (c : Cursor) → at + 1 ≤ c.at → c.at ≤ length image → Kin s x y
          → ((n : ℕ) → n ≤ length image → Alike (Ahead n) (value left image s n) (written left image s n))
          → Alike (Ahead at) (owned at (own_by s y c) λ q due. rest (value left image s) image s at (33 - left) (suc (length image)) due q)
          (valued at x λ r a. row s r at (following (written left image s) image s a c.at))
      by x y c b e (Kin.k_value {f = a} {p} {n} {due} q u) more =
          cases (named_at s p n)
          (λ t. rw (q, t) (Alike.aft (wider (λ k o. (omega arith, o.1)) (alike_rest (value left image s) (written left image s) more at (33 - left) a due u c.at e))))
          (λ t. rw (q, t) Alike.stops)
      by x y c b e (Kin.k_key q) more = Alike.stops
      by x y c b e (Kin.k_last q) more = Alike.stops
      by x y c b e Kin.k_file more = Alike.stops
      by x y c b e Kin.k_other more = Alike.stops

      go : (t : Taken) → record_at image at ≡ t → ((n : ℕ) → n ≤ length image → Alike (Ahead n) (value left image s n) (written left image s n))
          → Alike (Ahead at) (owned at (own_in s t) λ q due. rest (value left image s) image s at (33 - left) (suc (length image)) due q)
          (taken at t λ r q. valued at (shape_of r) λ w a. row s w at (following (written left image s) image s a q))
      go (Some x) e more = let p = behind image known at x.0 x.1 e in by (shape_of x.0) (role_of x.0) x.1 p.from p.fits (kin s x.0) more
      go None e more = Alike.stops

  abbrev Any : ℕ → Type 0
  Any n = Unit {0}

  items_one : (w : ℕ → Out) → items w image s 1 0 ≡ w 0
  unfolding items
  items_one w = go (w 0)
    where
      go : (d : Out) → d >>= items w image s 0 ≡ d
      go (end n) = refl
      go (stop a p) = refl
      go (put b d) = ap (put b) (go d)

  -- an image that does not begin with a file's record
  pub keys_alike : root_of image s ≡ alone → Alike Any (keys_of image s) (whole image (written limit.levels image s 0))
  unfolding keys_of From
  keys_alike e =
      let a = alike_items (value 32 image s) (written 32 image s) (alike_value 32) 0 1 1 (suc (length image)) 0 (omega arith) (omega arith) in
      rw e (both (λ n. pick (leb (length image) n) (end n) (stop 6 n)) (λ n. pick (leb (length image) n) (end n) (stop 6 n)) (rw (items_one (written 32 image s)) at a)
      (λ n p. picked (λ o. Alike Any o o) (leb (length image) n) (end n) (stop 6 n) (λ _. Alike.ends {n = n} tt) (λ _. Alike.stops)))

-- the answer with which a walk stops, 0 where it ends
unfoldable pub answer_of : Out → ℕ
answer_of (end n) = 0
answer_of (stop a p) = a
answer_of (put b d) = answer_of d

pub same_answer : {P : ℕ → Type 0} {d e : Out} → Alike P d e → answer_of d ≡ answer_of e
unfolding answer_of
same_answer (Alike.ends p) = refl
same_answer Alike.stops = refl
same_answer (Alike.fore a) = same_answer a
same_answer (Alike.aft a) = same_answer a

-- the index is refused with the answer with which the writing is
pub refused_alike : (image s : List ℕ) → Bytes image → root_of image s ≡ alone
    → answer_of (keys_of image s) ≡ answer_of (whole image (written limit.levels image s 0))
refused_alike image s known e = same_answer (keys_alike image s known e)

-- A writing as a value that is not refused with 6 goes as the index does: then no file's record is in front.
pub refused_as_value : (image s : List ℕ) → Bytes image → answer_of (whole image (written limit.levels image s 0)) ≢ 6
    → answer_of (keys_of image s) ≡ answer_of (whole image (written limit.levels image s 0))
unfolding root_of written answer_of
refused_as_value image s known ne = go (record_at image 0) refl
  where
    by : (r : Record) (c : Cursor) → record_at image 0 ≡ taken_to r c → (x : Shape) (y : Role) → shape_of r ≡ x → role_of r ≡ y → Kin s x y
        → answer_of (keys_of image s) ≡ answer_of (whole image (written limit.levels image s 0))
    by r c e x y f g (Kin.k_value q u) = refused_alike image s known (rw (e, g) refl)
    by r c e x y f g (Kin.k_key q) = refused_alike image s known (rw (e, g) refl)
    by r c e x y f g (Kin.k_last q) = refused_alike image s known (rw (e, g) refl)
    by r c e x y f g Kin.k_file = absurd (ne (rw (e, f) refl))
    by r c e x y f g Kin.k_other = refused_alike image s known (rw (e, g) refl)

    go : (t : Taken) → record_at image 0 ≡ t → answer_of (keys_of image s) ≡ answer_of (whole image (written limit.levels image s 0))
    go (Some x) e = by x.0 x.1 e (shape_of x.0) (role_of x.0) refl refl (kin s x.0)
    go None e = refused_alike image s known (rw e refl)
