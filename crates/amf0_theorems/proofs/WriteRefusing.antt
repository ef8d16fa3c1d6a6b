-- What stands where something else is due refuses the writing, at its place.
use Rattle.std.specs.Prelude.{◌+◌, ◌≤◌, ◌<◌, ◌≡◌, ◌∷◌, ◌++◌}
use Rattle.wire.proofs.Kit.{ℕ, zero, suc, refl, ap, List, arith, length, drop, length-append}
use Rattle.wire.specs.Number.{Bytes}
use Rattle.wire.specs.Limit as limit
use Rattle.wire.proofs.Laws.{pick_no}
use Rattle.wire.proofs.Stands.{Here, cut, skip, inside}
use Rattle.image.specs.declared.record.Record.{Record}
use Rattle.image.specs.Record.{size}
use Rattle.image.specs.Out.{Out, end, stop, put, ◌>>=◌}
use Rattle.image.proofs.Laws.{size_some}
use Rattle.amf0.specs.declared.write.Rest.{Rest}
use Rattle.amf0.specs.Standard.{Item, Sort}
use Rattle.amf0.specs.Shown.{Word, look, laid, Right}
use Rattle.amf0.specs.Writing.{items, pairs, dense, rest, value, top_value, whole}
use Rattle.amf0.specs.Written.{Lead, lead}
use Rattle.amf0.specs.Written.Lead.{keyed, keyless}
use Rattle.amf0_theorems.specs.Unwritten.{Stops, Slot, Begins, Opens, Refuses, NoValue, NoPair, Refused}
use Rattle.amf0_theorems.proofs.Puts.{Puts, part, others, value_first, key_first, item_kind, key_kind, puts, laid_append, laid_length, laid_size, right_left, right_right, one, value_begins}
use Rattle.amf0_theorems.proofs.Seen.{valued_seen, not_seen, SeenValue, see_value, SeenPair, see_pair, took_fronts}

-- ---- a writing and then another

-- the first is refused, or it ends and the second is refused
pub stops_first : (d : Out) (k : ℕ → Out) (a p : ℕ) → Stops d a p → Stops (d >>= k) a p
stops_first (end n) k a p h = absurd h
stops_first (stop b q) k a p h = h
stops_first (put b d) k a p h = stops_first d k a p h

pub stops_then : {d : Out} {x : List ℕ} {n : ℕ} → Puts ⊥ d x n → (k : ℕ → Out) (a p : ℕ) → Stops (k n) a p → Stops (d >>= k) a p
stops_then Puts.done k a p h = h
stops_then (Puts.more q) k a p h = stops_then q k a p h
stops_then (Puts.shut e) k a p h = absurd e

-- ---- the first record of what is begun

first_item : {s : List ℕ} {left : ℕ} {r : Record} {rs : List Record} {d : Slot} → Begins s left keyed Sort.value (r ∷ rs) d → (i : Item) × (look s r ≡ Word.item i)
first_item (Begins.node {i} e b) = (i, e)

first_key : {s : List ℕ} {left : ℕ} {r : Record} {rs : List Record} {d : Slot} → Begins s left keyed Sort.properties (r ∷ rs) d
    → (k : List ℕ) × (look s r ≡ Word.name k)
first_key (Begins.key {k} e b) = (k, e)
first_key (Begins.property {k} e c n b) = (k, e)

module _ (s image : List ℕ) (bs : Bytes image) where
  -- ---- at the place

  -- a value is due, a key or the end, or any of the three
  value_slot : {z : List ℕ} {a : ℕ} (left at : ℕ) → drop at image ≡ z → Refuses s (Slot.value left) z a → Stops (value left image s at) a at
  unfolding value
  value_slot zero at h (Refuses.deep v) = rw (valued_seen image at h v) (refl, refl)
  value_slot zero at h (Refuses.kind n) = rw (not_seen image at h n) (refl, refl)
  value_slot (suc left) at h (Refuses.value n) = by (see_value s image bs at (rest (value left image s) image s)) (rw h n)
    where
      by : {d : Out} {k : Rest → ℕ → Out} → SeenValue s image bs at k d → NoValue s (drop at image) → Stops d 6 at
      by (SeenValue.seen {r} t y) n = absurd (n.none r y.what (took_fronts s image bs at t y.named) y.looks)
      by (SeenValue.unseen m) n = (refl, refl)

  pair_slot : {z : List ℕ} {a : ℕ} (v : ℕ → Out) (fuel at : ℕ) → drop at image ≡ z → 1 ≤ fuel → Refuses s Slot.pair z a → Stops (pairs v image s fuel at) a at
  unfolding pairs
  pair_slot v zero at h l (Refuses.pair n) = absurd (omega arith)
  pair_slot v (suc fuel) at h l (Refuses.pair n) = by (see_pair s image bs at (λ q. v q >>= pairs v image s fuel) end) (rw h n)
    where
      by : {d : Out} {k l : ℕ → Out} → SeenPair s image bs at k l d → NoPair s (drop at image) → Stops d 6 at
      by (SeenPair.key {r} t y) n = absurd (n.no_key r y.key (took_fronts s image bs at t y.named) y.looks)
      by (SeenPair.last {r} t y) n = absurd (n.no_end r (took_fronts s image bs at t y.named) y.looks)
      by (SeenPair.neither m) n = (refl, refl)

  either_slot : {z : List ℕ} {a : ℕ} (left fuel k at : ℕ) → drop at image ≡ z → 1 ≤ length image → Refuses s (Slot.either left) z a
      → Stops (dense (value left image s) image s (suc fuel) k at) a at
  unfolding dense
  either_slot left fuel k at h l (Refuses.either_value v r) = rw (valued_seen image at h v) (stops_first (value left image s at) _ _ at (value_slot left at h r))
  either_slot left fuel k at h l (Refuses.either_pair n r) = rw (not_seen image at h n) (pair_slot (value left image s) (length image) at h l r)

  -- ---- before the place

  -- where keys follow on values without one, as many are looked at as the image has bytes
  abbrev Tight : Lead → ℕ → Type 0
  Tight keyed n = Unit {0}
  Tight (keyless k) n = n < length image

  tight : (l : Lead) {n : ℕ} → n < length image → Tight l n
  tight keyed h = tt
  tight (keyless k) h = h

  -- what is begun is refused where its records end
  stops : {left : ℕ} {l : Lead} {k : Sort} {rs : List Record} {d : Slot} {z : List ℕ} {a : ℕ} → Begins s left l k rs d → Right s rs → Refuses s d z a
      → (at p fuel : ℕ) → Here image at (laid rs) z → p ≡ at + length (laid rs) → length (laid rs) < fuel → Tight l (length (laid rs))
      → Stops (part s image (value left image s) fuel l k at) a p
  unfolding items dense
  stops {left} Begins.value g r at p fuel h m f w = let e : p ≡ at = omega arith in rw e (value_slot left at h.same r)
  stops {z} {a} (Begins.node {left} {r = c} {i} {rs} e b) g r at p fuel h m f w =
      let o = laid_size c rs in
      let j = inside h (omega (arith, o, size_some c)) in
      rw (value_first s image c rs z h left i e g)
      (stops b g.2 r (at + size c) p (length image) (others s image c rs z h) (omega (arith, o)) (omega (arith, o, j, size_some c)) (tight (lead i) (omega (arith, o, j, size_some c))))
  stops {left} Begins.pair g r at p fuel h m f w = let e : p ≡ at = omega arith in rw e (pair_slot (value left image s) fuel at h.same (omega arith) r)
  stops (Begins.key e b) g r at p zero h m f w = absurd (omega arith)
  stops {left} {z} {a} (Begins.key {r = c} {k} {rs} e b) g r at p (suc fuel) h m f w =
      let o = laid_size c rs in
      rw (key_first s image c rs z h (value left image s) fuel k e g)
      (stops_first (value left image s (at + size c)) (pairs (value left image s) image s fuel) a p
      (stops b g.2 r (at + size c) p (suc (length (laid rs))) (others s image c rs z h) (omega (arith, o)) (omega arith) tt))
  stops (Begins.property e c n b) g r at p zero h m f w = absurd (omega arith)
  stops {left} {z} {a} (Begins.property {r = c} {k} {v} {rs} {qs} e t n b) g r at p (suc fuel) h m f w =
      let l = laid_length rs qs in
      let o = laid_size c (rs ++ qs) in
      let q : ℕ = at + size c in
      let j : Here image q (laid rs ++ laid qs) z = rw (laid_append rs qs) at (others s image c (rs ++ qs) z h) in
      rw (key_first s image c (rs ++ qs) z h (value left image s) fuel k e g)
      (stops_then (puts s image t (right_left s rs qs g.2) (laid qs ++ z) q (q + length (laid rs)) left fuel (cut (laid rs) (laid qs) j) refl (λ i. omega arith) (omega (arith, size_some c)))
      (pairs (value left image s) image s fuel) a p
      (stops b (right_right s rs qs g.2) r (q + length (laid rs)) p fuel (skip (laid rs) (laid qs) j) (omega arith) (omega (arith, size_some c)) tt))
  stops {left} {a} (Begins.first {n} b) g r at p fuel h m f w =
      stops_first (value left image s at) (items (value left image s) image s n) a p (stops b g r at p fuel h m f tt)
  stops {left} {z} {a} (Begins.cons {n = c} {v} {rs} {qs} t n b) g r at p fuel h m f w =
      let l = laid_length rs qs in
      let j : Here image at (laid rs ++ laid qs) z = rw (laid_append rs qs) at h in
      stops_then (puts s image t (right_left s rs qs g) (laid qs ++ z) at (at + length (laid rs)) left fuel (cut (laid rs) (laid qs) j) refl (λ i. omega arith) (omega arith))
      (items (value left image s) image s c) a p
      (stops b (right_right s rs qs g) r (at + length (laid rs)) p fuel (skip (laid rs) (laid qs) j) (omega arith) (omega arith) tt)
  stops {left} (Begins.either {n = k}) g r at p fuel h m f w = let e : p ≡ at = omega arith in rw e (either_slot left fuel k at h.same (omega arith) r)
  stops {left} {z} {a} (Begins.lone {n = k} {r = c} {rs} b) g r at p fuel h m f w =
      let i = first_item b in
      rw (item_kind s image c rs z h i.0 i.1 g)
      (stops_first (value left image s at) (dense (value left image s) image s fuel (k + 1)) a p (stops b g r at p fuel h m f tt))
  stops (Begins.dense t n b) g r at p zero h m f w = absurd (omega arith)
  stops {left} {z} {a} (Begins.dense {n = k} {v} {rs} {qs} t n b) g r at p (suc fuel) h m f w =
      let l = laid_length rs qs in
      let j : Here image at (laid rs ++ laid qs) z = rw (laid_append rs qs) at h in
      let i = cut (laid rs) (laid qs) j in
      let ga = right_left s rs qs g in
      let y = one t in
      rw (value_begins s image t ga (laid qs ++ z) at i)
      (stops_then (puts s image t ga (laid qs ++ z) at (at + length (laid rs)) left (length (laid rs)) i refl (λ o. omega arith) (omega arith))
      (dense (value left image s) image s (suc fuel) (k + 1)) a p
      (stops b (right_right s rs qs g) r (at + length (laid rs)) p fuel (skip (laid rs) (laid qs) j) (omega arith) (omega arith) (omega arith)))
  stops {left} {z} {a} (Begins.pairs {n = k} {r = c} {rs} b) g r at p fuel h m f w =
      let i = first_key b in
      rw (key_kind s image c rs z h i.0 i.1 g) (stops b g r at p (length image) h m w tt)

  -- a value
  pub value_stops : {left : ℕ} {rs : List Record} {d : Slot} {z : List ℕ} {a : ℕ} → Begins s left keyed Sort.value rs d → Right s rs → Refuses s d z a
      → (at p : ℕ) → Here image at (laid rs) z → p ≡ at + length (laid rs) → Stops (value left image s at) a p
  value_stops {rs} b g r at p h m = stops b g r at p (suc (length (laid rs))) h m (omega arith) tt

  -- ---- from the start of the image

  opened : {rs : List Record} {d : Slot} {z : List ℕ} {a : ℕ} (p : ℕ) → Opens s rs d → Right s rs → Refuses s d z a → Here image 0 (laid rs) z
      → p ≡ length (laid rs) → Stops (whole image (top_value image s 0)) a p
  opened {a} p (Opens.inside b) g r h m =
      stops_first (top_value image s 0) _ a p (value_stops b g r 0 p h (omega arith))
  opened {rs} p (Opens.behind t n) g (Refuses.past {b} {x}) h m =
      let l : p < length image = omega (arith, ap length h.same, length-append (laid rs) (b ∷ x)) in
      stops_then (puts s image t g (b ∷ x) 0 p limit.levels (length (laid rs)) h (omega arith) (λ o. omega arith) (omega arith)) _ 6 p
      (rw (pick_no (length image) p (end p) (stop 6 p) l) (refl, refl))

  -- an image that is refused
  pub refuses_by : (a p : ℕ) → Refused image s a p → Stops (whole image (top_value image s 0)) a p
  refuses_by a p x = opened p x.opens x.right x.refuses (record { same = x.lies }) x.stands
