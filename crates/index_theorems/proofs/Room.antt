-- How much a walk over an image puts out: marks alone, and for each of them it passes seven bytes of the image. So a buffer twice as long as the image is always
-- room enough for its index. And it is refused with 5 or 6 alone. All of it holds of any image.
use Rattle.std.specs.Prelude.{◌+◌, ◌-◌, ◌*◌, ◌≤◌, ◌≡◌, ◌⊎◌, Some, None, Option}
use Rattle.wire.proofs.Kit.{ℕ, zero, suc, refl, List, Bool, true, false, inl, inr, arith, leb, eqb, length, length-append}
use Rattle.wire.specs.Choice.{pick}
use Rattle.wire.specs.Field.{to}
use Rattle.wire.specs.Limit as limit
use Rattle.wire.specs.Number.{Bytes}
use Rattle.wire.specs.declared.cursor.Cursor.{Cursor}
use Rattle.wire.proofs.Laws.{picked}
use Rattle.image.specs.declared.record.Record.{Record}
use Rattle.image.specs.declared.record.Record.TheVariants as R
use Rattle.image.specs.Record.{size}
use Rattle.image.specs.Taking.{record_at, Taken, taken_to}
use Rattle.image.specs.Out.{Out, end, stop, put, ◌>>=◌, named_at, bytes as bytes_out}
use Rattle.image.proofs.Found.{found_stood}
use Rattle.amf0.specs.Writing.{value_at}
use Rattle.index.specs.declared.walk.Rest.{Rest}
use Rattle.index.specs.declared.walk.Rest.TheVariants.{Nothing, Pairs, Dense, Body, Values}
use Rattle.index.specs.declared.walk.Role.{Role}
use Rattle.index.specs.declared.walk.Coming.{Coming}
use Rattle.index.specs.Mark.{mark, mark_bytes}
use Rattle.index.specs.Keys.{Begun, begun_to, role_of, own_by, own_in, key_by, key_in, own_of, pair_at, turn_of, turned, owned, rest, value}
use Rattle.index.specs.Index.{root_by, root_in, root_of, keys_of}
use Rattle.index_theorems.proofs.Refusals.{Behind, behind, answer_of}

-- ---- marks alone

-- k marks are put out before; where the walk ends, at a place n with m marks put out, P m n holds
pub data Rowed (P : ℕ → ℕ → Type 0) : ℕ → Out → Type 0 where
  ends : {k n : ℕ} → P k n → Rowed P k (end n)
  deep : {k p : ℕ} → Rowed P k (stop 5 p)
  bad : {k p : ℕ} → Rowed P k (stop 6 p)
  one : {k : ℕ} {b : List ℕ} {d : Out} → length b ≡ 13 → Rowed P (suc k) d → Rowed P k (put b d)

onward : {P Q : ℕ → ℕ → Type 0} {k : ℕ} {d : Out} (j : ℕ → Out) → Rowed P k d → ((m n : ℕ) → P m n → Rowed Q m (j n)) → Rowed Q k (d >>= j)
onward j (Rowed.ends {k} {n} p) f = f k n p
onward j Rowed.deep f = Rowed.deep
onward j Rowed.bad f = Rowed.bad
onward j (Rowed.one e r) f = Rowed.one e (onward j r f)

wider : {P Q : ℕ → ℕ → Type 0} {k : ℕ} {d : Out} → ((m n : ℕ) → P m n → Q m n) → Rowed P k d → Rowed Q k d
wider f (Rowed.ends {k} {n} p) = Rowed.ends (f k n p)
wider f Rowed.deep = Rowed.deep
wider f Rowed.bad = Rowed.bad
wider f (Rowed.one e r) = Rowed.one e (wider f r)

-- ---- the walk

module _ (image s : List ℕ) where
  -- from a place on, with k marks put out before, to a place n, with m: seven bytes for each mark, and some more
  unfoldable pub Paced : ℕ → ℕ → ℕ → ℕ → ℕ → Type 0
  Paced more at k m n = Bytes image → at ≤ length image → (7 * m + at + more ≤ 7 * k + n) × (n ≤ length image)

  -- what comes at a place
  abbrev Comes : ℕ → Option Coming → Type 0
  Comes at (Some (Coming.Done c)) = Bytes image → at ≤ length image → (at ≤ c.at) × (c.at ≤ length image)
  Comes at (Some (Coming.Value c t)) = c.at ≡ at
  Comes at (Some (Coming.Key c t)) = Bytes image → (c.at ≡ at + 6) × (c.at ≤ length image)
  Comes at None = Unit {0}

  module _ (at : ℕ) (due : Rest) (ends : Bool) where
    came : (r : Record) (c : Cursor) → record_at image at ≡ taken_to r c → Comes at (key_by s due ends (role_of r) c)
    unfolding size
    came (R.Number n) c e = tt
    came (R.Boolean b) c e = tt
    came (R.Text p n) c e = tt
    came R.Object c e = tt
    came R.Null c e = tt
    came R.Undefined c e = tt
    came (R.Reference n) c e = tt
    came (R.EcmaArray n) c e = tt
    came R.ObjectEnd c e =
        picked (Comes at) ends (Some (Coming.Done c)) None (λ _ known l. let p = behind image known at R.ObjectEnd c e in (omega (arith, p.from), p.fits)) (λ _. tt)
    came (R.StrictArray n) c e = tt
    came (R.Date n present zone) c e = tt
    came R.Unsupported c e = tt
    came (R.Xml p n) c e = tt
    came (R.TypedObject p n) c e = tt
    came (R.Key p n) c e =
        picked (Comes at) (named_at s p n) (Some (Coming.Key c due)) None
        (λ _ known. let f = found_stood image known at (R.Key p n) c e in (f.next, f.within))
        (λ _. tt)
    came (R.Packet h m) c e = tt
    came (R.Header p n f) c e = tt
    came (R.Message p n q m) c e = tt
    came (R.Lso l p n) c e = tt

    came_in : (t : Taken) → record_at image at ≡ t → Comes at (key_in s due ends t)
    came_in (Some x) e = came x.0 x.1 e
    came_in None e = tt

    pair_comes : Comes at (pair_at image s due ends at)
    unfolding pair_at
    pair_comes = came_in (record_at image at) refl

  turn_comes : (due : Rest) (at : ℕ) → Comes at (turn_of image s due at)
  unfolding turn_of
  turn_comes Nothing at = λ known l. (omega arith, l)
  turn_comes (Values n) at =
      picked (Comes at) (eqb n 0) (Some (Coming.Done (to at))) (Some (Coming.Value (to at) (Values (n - 1)))) (λ _ known l. (omega arith, l)) (λ _. refl)
  turn_comes Dense at = picked (Comes at) (value_at image at) (Some (Coming.Value (to at) Dense)) (pair_at image s Pairs true at) (λ _. refl) (λ _. pair_comes at Pairs true)
  turn_comes Pairs at = pair_comes at Pairs true
  turn_comes Body at =
      picked (Comes at) (leb (length image) at) (Some (Coming.Done (to at))) (pair_at image s Body false at)
      (λ _ known l. (omega arith, l))
      (λ _. pair_comes at Body false)

  module _ (v : ℕ → Out) (inner : (k at : ℕ) → Rowed (Paced 1 at k) k (v at)) (place d : ℕ) where
    rest_rowed : (f : ℕ) (due : Rest) (at k : ℕ) → Rowed (Paced 0 at k) k (rest v image s place d f due at)
    unfolding rest Paced
    rest_rowed zero due at k = Rowed.bad
    rest_rowed (suc f) due at k = go (turn_of image s due at) (turn_comes due at) (rest_rowed f)
      where
        go : (x : Option Coming) → Comes at x → ((t : Rest) (q j : ℕ) → Rowed (Paced 0 q j) j (rest v image s place d f t q))
            → Rowed (Paced 0 at k) k
            (turned at x (λ q t. v q >>= rest v image s place d f t) (λ q t. put (mark_bytes (mark d place at q)) (v q >>= rest v image s place d f t)))
        go (Some (Coming.Done c)) h more = Rowed.ends {k = k} {n = c.at} (λ known l. let b = h known l in (omega (arith, b.0), b.1))
        go (Some (Coming.Value c t)) h more =
            onward (rest v image s place d f t) (inner k c.at) λ m n p.
            wider (λ i o q known l. let a = p known (omega arith) in let b = q known a.1 in (omega (arith, a.0, b.0), b.1)) (more t n m)
        go (Some (Coming.Key c t)) h more =
            Rowed.one refl
            (onward (rest v image s place d f t) (inner (suc k) c.at) λ m n p.
            wider (λ i o q known l.
            let e = h known in
            let a = p known e.1 in
            let b = q known a.1 in
            (omega (arith, e.0, a.0, b.0), b.1)) (more t n m))
        go None h more = Rowed.bad

  -- a value's record
  abbrev Starts : ℕ → Begun → Type 0
  Starts at (Some x) = Bytes image → Behind image at x.0
  Starts at None = Unit {0}

  own_by_lem : (at : ℕ) (y : Role) (c : Cursor) → (Bytes image → Behind image at c) → Starts at (own_by s y c)
  own_by_lem at (Role.Value p n f) c b = picked (Starts at) (named_at s p n) (begun_to c f) None (λ _. b) (λ _. tt)
  own_by_lem at (Role.Key p n) c b = tt
  own_by_lem at (Role.File p n) c b = tt
  own_by_lem at Role.End c b = tt
  own_by_lem at Role.Other c b = tt

  own_in_lem : (at : ℕ) (t : Taken) → record_at image at ≡ t → Starts at (own_in s t)
  own_in_lem at (Some x) e = own_by_lem at (role_of x.0) x.1 (λ known. behind image known at x.0 x.1 e)
  own_in_lem at None e = tt

  value_rowed : (left k at : ℕ) → Rowed (Paced 1 at k) k (value left image s at)
  unfolding value Paced own_of
  value_rowed zero k at = picked (λ a. Rowed (Paced 1 at k) k (stop a at)) (value_at image at) 5 6 (λ _. Rowed.deep) (λ _. Rowed.bad)
  value_rowed (suc left) k at = go (own_in s (record_at image at)) (own_in_lem at (record_at image at) refl) (value_rowed left)
    where
      go : (x : Begun) → Starts at x → ((j q : ℕ) → Rowed (Paced 1 q j) j (value left image s q))
          → Rowed (Paced 1 at k) k (owned at x λ q due. rest (value left image s) image s at (limit.levels + 1 - left) (suc (length image)) due q)
      go (Some x) h more =
          wider (λ m n p known l. let b = h known in let a = p known b.fits in (omega (arith, b.from, a.0), a.1))
          (rest_rowed (value left image s) more at (limit.levels + 1 - left) (suc (length image)) x.1 x.0.at k)
      go None h more = Rowed.bad

  -- the first record
  abbrev Roots : Begun → Type 0
  Roots (Some x) = Bytes image → x.0.at ≤ length image
  Roots None = Unit {0}

  root_by_lem : (y : Role) (c : Cursor) → (Bytes image → c.at ≤ length image) → Roots (root_by s y c)
  root_by_lem (Role.Value p n f) c b = λ known. omega arith
  root_by_lem (Role.Key p n) c b = λ known. omega arith
  root_by_lem (Role.File p n) c b = picked Roots (named_at s p n) (begun_to c Body) None (λ _. b) (λ _. tt)
  root_by_lem Role.End c b = λ known. omega arith
  root_by_lem Role.Other c b = λ known. omega arith

  root_in_lem : (t : Taken) → record_at image 0 ≡ t → Roots (root_in s t)
  root_in_lem (Some x) e = root_by_lem (role_of x.0) x.1 (λ known. (behind image known 0 x.0 x.1 e).fits)
  root_in_lem None e = λ known. omega arith

  pub keys_rowed : Rowed (λ m n. Bytes image → (7 * m ≤ n) × (n ≤ length image)) 0 (keys_of image s)
  unfolding keys_of root_of Paced
  keys_rowed =
      onward (λ n. pick (leb (length image) n) (end n) (stop 6 n)) (go (root_in s (record_at image 0)) (root_in_lem (record_at image 0) refl)) λ m n p.
      picked (Rowed _ m) (leb (length image) n) (end n) (stop 6 n) (λ _. Rowed.ends p) (λ _. Rowed.bad)
    where
      go : (x : Begun) → Roots x
          → Rowed (λ m n. Bytes image → (7 * m ≤ n) × (n ≤ length image)) 0
          (owned 0 x λ q due. rest (value limit.levels image s) image s 0 1 (suc (length image)) due q)
      go (Some x) h =
          wider (λ m n p known. let a = p known (h known) in (omega (arith, a.0), a.1))
          (rest_rowed (value limit.levels image s) (value_rowed limit.levels) 0 1 (suc (length image)) x.1 x.0.at 0)
      go None h = Rowed.bad

-- ---- what a walk of marks comes to

-- so many marks, and P of their number where it is not refused
pub record Counted (P : ℕ → ℕ → Type 0) (k : ℕ) (d : Out) : Type 0 where
  pub count : ℕ
  pub size : length (bytes_out d) ≡ 13 * count
  pub refusal : (answer_of d ≡ 0) ⊎ ((answer_of d ≡ 5) ⊎ (answer_of d ≡ 6))
  pub place : ℕ
  pub ended : answer_of d ≡ 0 → P (k + count) place

pub counted : {P : ℕ → ℕ → Type 0} {k : ℕ} {d : Out} → Rowed P k d → Counted P k d
unfolding answer_of bytes_out
counted {P} (Rowed.ends {k} {n} p) =
    let e : k + 0 ≡ k = omega arith in
    record { count = 0; size = refl; refusal = inl refl; place = n; ended = λ _. rw e p }
counted Rowed.deep = record { count = 0; size = refl; refusal = inr (inl refl); place = 0; ended = λ e. absurd (omega arith) }
counted Rowed.bad = record { count = 0; size = refl; refusal = inr (inr refl); place = 0; ended = λ e. absurd (omega arith) }
counted {P} {k} (Rowed.one {b} {d} e r) =
    let c = counted r in
    let f : suc k + c.count ≡ k + suc c.count = omega arith in
    record {
      count = suc c.count;
      size = omega (arith, length-append b (bytes_out d), e, c.size);
      refusal = c.refusal;
      place = c.place;
      ended = λ z. rw f at (c.ended z);
    }
