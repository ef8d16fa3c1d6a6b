-- A writing that is refused is so by what stands at its place: the records before it begin a tree, and what is due behind them is not there.
use Rattle.std.specs.Prelude.{◌+◌, ◌≤◌, ◌<◌, ◌≡◌, ◌⊎◌, ◌∷◌, ◌++◌}
use Rattle.wire.proofs.Kit.{ℕ, zero, suc, refl, sym, ap, ◌∙◌, inl, inr, List, [], arith, length, drop, length-append, leb}
use Rattle.wire.proofs.Kit.{leb-false}
use Rattle.wire.specs.Choice.{pick}
use Rattle.wire.specs.Number.{Bytes}
use Rattle.wire.specs.Limit as limit
use Rattle.wire.proofs.Laws.{picked}
use Rattle.wire.proofs.Stands.{Here, join}
use Rattle.image.specs.declared.record.Record.{Record}
use Rattle.image.specs.Record.{bytes_of}
use Rattle.image.specs.Out.{Out, end, stop, put, ◌>>=◌}
use Rattle.image.proofs.Laws.{size_bytes, size_some}
use Rattle.amf0.specs.declared.write.Rest.{Rest}
use Rattle.amf0.specs.Standard.{Sort, Content, content, sort_of}
use Rattle.amf0.specs.Shown.{laid, Named, Right}
use Rattle.amf0.specs.Writing.{value_at, items, pairs, dense, rest, value, top_value, whole}
use Rattle.amf0.specs.Written.{Lead, lead_of}
use Rattle.amf0.specs.Written.Lead.{keyed, keyless}
use Rattle.amf0_theorems.specs.Unwritten.{Stops, Slot, Begins, Opens, Fronts, NoPair, Valued, Refuses, RefusedBy, Refused}
use Rattle.amf0_theorems.proofs.Says.{rest_of}
use Rattle.amf0_theorems.proofs.Puts.{laid_append, laid_length, right_both, one}
use Rattle.amf0_theorems.proofs.WriteSound.{Ends, Stood, before, sound}
use Rattle.amf0_theorems.proofs.Seen.{Took, Value, beyond, not_valued, valued_stands, not_stands, SeenValue, see_value, SeenPair, see_pair}

-- a writing and then another: the one is refused, or the other, where the one ends
pub bind_stops : {P : Type 0} (d : Out) (k : ℕ → Out) (a p : ℕ) → Stops (d >>= k) a p → (Stops d a p → P) → ((n : ℕ) → Ends d n → Stops (k n) a p → P) → P
bind_stops (end n) k a p h f g = g n refl h
bind_stops (stop b q) k a p h f g = f h
bind_stops (put b d) k a p h f g = bind_stops d k a p h f g

-- or bytes of the image are left behind it
pub whole_stops : {P : Type 0} (image : List ℕ) (d : Out) (a p : ℕ) → Stops (whole image d) a p → (Stops d a p → P)
    → ((n : ℕ) → Ends d n → n < length image → a ≡ 6 → p ≡ n → P) → P
whole_stops {P} image d a p e f g =
    bind_stops d (λ n. pick (leb (length image) n) (end n) (stop 6 n)) a p e f λ n h.
    picked (λ (x : Out). Stops x a p → P) (leb (length image) n) (end n) (stop 6 n) (λ i j. absurd j) (λ i j. g n h (leb-false (length image) n i) j.0 j.1)

pub left_behind : {image x z : List ℕ} → Here image 0 x z → length x < length image → 1 ≤ length z
left_behind {x} {z} h l = omega (arith, ap length h.same, length-append x z)

pub non_empty : (P : List ℕ → Type 0) (x : List ℕ) → 1 ≤ length x → ((b : ℕ) (y : List ℕ) → P (b ∷ y)) → P x
non_empty P [] l f = absurd (omega arith)
non_empty P (b ∷ x) l f = f b x

-- a writing ends, or it is refused
pub ends_or_stops : (d : Out) → ((n : ℕ) × Ends d n) ⊎ ((a : ℕ) × (p : ℕ) × Stops d a p)
ends_or_stops (end n) = inl (n, refl)
ends_or_stops (stop a p) = inr (a, p, (refl, refl))
ends_or_stops (put b d) = ends_or_stops d

-- a writing that ends does so at one place, and is not refused
pub ends_once : (d : Out) (m n : ℕ) → Ends d m → Ends d n → m ≡ n
ends_once (end q) m n e f = e ∙ sym f
ends_once (stop a p) m n e f = absurd e
ends_once (put b d) m n e f = ends_once d m n e f

pub ends_not : (d : Out) (n a p : ℕ) → Ends d n → Stops d a p → ⊥
ends_not (end m) n a p e f = f
ends_not (stop b q) n a p e f = e
ends_not (put b d) n a p e f = ends_not d n a p e f

-- no record stands past the end
pub no_front : {s : List ℕ} {r : Record} → Fronts s r [] → ⊥
no_front {r} f = omega (arith, ap length f.same, length-append (bytes_of r) f.rest, size_bytes r, size_some r)

no_pair_past : (s : List ℕ) → NoPair s []
no_pair_past s = record { no_key = λ r k f e. no_front f; no_end = λ r f e. no_front f }

module _ (s image : List ℕ) (bs : Bytes image) where
  -- from the place `at` of the image to p stand right records, and the rest behind them
  pub record Reached (at p : ℕ) : Type 0 where
    pub records : List Record
    pub rest : List ℕ
    pub right : Right s records
    pub here : Here image at (laid records) rest
    pub place : p ≡ at + length (laid records)

  -- no record, one before others, some before others, and those of a tree
  unfoldable pub no_record : {at p : ℕ} → p ≡ at → Reached at p
  no_record {at} e = record { records = []; rest = drop at image; right = tt; here = record { same = refl }; place = omega arith }

  unfoldable pub past_record : {at q p : ℕ} {r : Record} → Took s image bs at r q → Named s r → Reached q p → Reached at p
  past_record {r} t n x =
      let b = before s image bs x.records t x.here x.place in
      record { records = r ∷ x.records; rest = x.rest; right = (t.fits, n, x.right); here = b.0; place = b.1 }

  unfoldable pub past_records : {at q p : ℕ} {z : List ℕ} (rs : List Record) → Right s rs → Here image at (laid rs) z → q ≡ at + length (laid rs) → Reached q p
      → Reached at p
  past_records rs g h e x =
      record {
        records = rs ++ x.records;
        rest = x.rest;
        right = right_both s rs x.records g x.right;
        here = rw (laid_append rs x.records) (join h refl (rw e at x.here));
        place = omega (arith, laid_length rs x.records, x.place);
      }

  unfoldable pub past_tree : {l : Lead} {k : Sort} {left at q p : ℕ} → Stood s image bs l k left at q → Reached q p → Reached at p
  past_tree y x = past_records y.records y.right y.here y.next x

  -- an image that is refused by what stands behind records from its start on
  pub refused_at : {S : Type 0} {O : List Record → S → Type 0} {R : S → List ℕ → ℕ → Type 0} {a p : ℕ} (d : S) (x : Reached 0 p) → O x.records d
      → R d x.rest a → RefusedBy O R image s a p
  refused_at d x o r =
      record {
        records = x.records;
        rest = x.rest;
        slot = d;
        lies = x.here.same;
        stands = omega (arith, x.place);
        right = x.right;
        opens = o;
        refuses = r;
      }

  -- a record that was taken takes a byte, and so does a tree that stood
  took_on : {at q : ℕ} {r : Record} → Took s image bs at r q → at + 1 ≤ q
  took_on {r} t = omega (arith, t.next, size_bytes r, size_some r)

  stood_on : {left at n : ℕ} → Stood s image bs keyed Sort.value left at n → at + 1 ≤ n
  stood_on x = omega (arith, x.next, one x.spells)

  -- the records from `at` to p begin a tree within the levels that are left, and what stands at p, where something is due, refuses the image with a
  pub record Halted (l : Lead) (k : Sort) (left at a p : ℕ) : Type 0 where
    pub reached : Reached at p
    pub slot : Slot
    pub begins : Begins s left l k reached.records slot
    pub refuses : Refuses s slot reached.rest a

  halted : {l : Lead} {k : Sort} {left at a p : ℕ} {d : Slot} (x : Reached at p) → Begins s left l k x.records d → Refuses s d x.rest a
      → Halted l k left at a p
  halted {d} x b r = record { reached = x; slot = d; begins = b; refuses = r }

  -- in an 08, what refuses a value without a key, and what refuses a key or the end
  lone : {left k at a : ℕ} {rs : List Record} {d : Slot} {z : List ℕ} → Valued (drop at image) → Here image at (laid rs) z → Begins s left keyed Sort.value rs d
      → Refuses s d z a → (c : Slot) × Begins s left (keyless k) Sort.properties rs c × Refuses s c z a
  lone {left} v h Begins.value r = (Slot.either left, Begins.either, Refuses.either_value (rw h.same at v) r)
  lone {d} v h (Begins.node e b) r = (d, Begins.lone (Begins.node e b), r)

  keys : {left k at a : ℕ} {rs : List Record} {d : Slot} {z : List ℕ} → (Valued (drop at image) → ⊥) → Here image at (laid rs) z
      → Begins s left keyed Sort.properties rs d → Refuses s d z a → (c : Slot) × Begins s left (keyless k) Sort.properties rs c × Refuses s c z a
  keys {left} v h Begins.pair r = (Slot.either left, Begins.either, Refuses.either_pair (rw h.same at v) r)
  keys {d} v h (Begins.key e b) r = (d, Begins.pairs (Begins.key e b), r)
  keys {d} v h (Begins.property e c f b) r = (d, Begins.pairs (Begins.property e c f b), r)

  module _ (left : ℕ) (v : ℕ → Out) (good : (at n : ℕ) → Ends (v at) n → Stood s image bs keyed Sort.value left at n)
      (halt : (at a p : ℕ) → Stops (v at) a p → Halted keyed Sort.value left at a p) where
    -- values in a row
    items_halt : (c at a p : ℕ) → Stops (items v image s c at) a p → Halted keyed (Sort.values c) left at a p
    unfolding items past_records past_tree
    items_halt zero at a p e = absurd e
    items_halt (suc c) at a p e =
        bind_stops (v at) (items v image s c) a p e
        (λ f. let x = halt at a p f in halted x.reached (Begins.first x.begins) x.refuses)
        (λ n f g.
        let y = good at n f in
        let x = items_halt c n a p g in
        halted (past_tree y x.reached) (Begins.cons y.spells y.deep x.begins) x.refuses)

    -- each pair takes bytes, so where as many are looked at as bytes are left, none stands at the next place
    pairs_halt : (fuel at a p : ℕ) → length image ≤ fuel + at → Stops (pairs v image s fuel at) a p → Halted keyed Sort.properties left at a p
    unfolding pairs no_record past_record past_records past_tree
    pairs_halt zero at a p l e = halted (no_record e.1) Begins.pair (rw (e.0, beyond image at (omega arith)) (Refuses.pair (no_pair_past s)))
    pairs_halt (suc fuel) at a p l e = by (pairs v image s fuel) (pairs_halt fuel) (see_pair s image bs at (λ q. v q >>= pairs v image s fuel) end) e
      where
        by : (more : ℕ → Out) {d : Out} → ((at a p : ℕ) → length image ≤ fuel + at → Stops (more at) a p → Halted keyed Sort.properties left at a p)
            → SeenPair s image bs at (λ q. v q >>= more) end d → Stops d a p → Halted keyed Sort.properties left at a p
        by more ih (SeenPair.key {q} t k) e =
            bind_stops (v q) more a p e
            (λ f. let x = halt q a p f in halted (past_record t k.named x.reached) (Begins.key k.looks x.begins) x.refuses)
            (λ n f g.
            let y = good q n f in
            let x = ih n a p (omega (arith, took_on t, stood_on y)) g in
            halted (past_record t k.named (past_tree y x.reached)) (Begins.property k.looks y.spells y.deep x.begins) x.refuses)
        by more ih (SeenPair.last t k) e = absurd e
        by more ih (SeenPair.neither n) e = halted (no_record e.1) Begins.pair (rw e.0 (Refuses.pair n))

    -- the same for values without a key
    dense_halt : (fuel k at a p : ℕ) → length image ≤ fuel + at → Stops (dense v image s fuel k at) a p → Halted (keyless k) Sort.properties left at a p
    unfolding dense no_record past_records past_tree
    dense_halt zero k at a p l = λ e.
        halted (no_record e.1) Begins.either (rw (e.0, beyond image at (omega arith)) (Refuses.either_pair not_valued (Refuses.pair (no_pair_past s))))
    dense_halt (suc fuel) k at a p l =
        picked (λ (x : Out). Stops x a p → Halted (keyless k) Sort.properties left at a p) (value_at image at) _ _
        (λ h e.
        bind_stops (v at) (dense v image s fuel (k + 1)) a p e
        (λ f.
        let x = halt at a p f in
        let y = lone (valued_stands image at h) x.reached.here x.begins x.refuses in
        halted x.reached y.1 y.2)
        (λ n f g.
        let y = good at n f in
        let x = dense_halt fuel (k + 1) n a p (omega (arith, stood_on y)) g in
        halted (past_tree y x.reached) (Begins.dense y.spells y.deep x.begins) x.refuses))
        (λ h e.
        let x = pairs_halt (length image) at a p (omega arith) e in
        let y = keys (not_stands image at h) x.reached.here x.begins x.refuses in
        halted x.reached y.1 y.2)

    -- what follows a value's own record, and then the value
    rest_halt : (c : Content) (at a p : ℕ) → Stops (rest v image s (rest_of c) at) a p → Halted (lead_of c) (sort_of c) left at a p
    unfolding rest
    rest_halt Content.nothing at a p e = absurd e
    rest_halt Content.named at a p e = pairs_halt (length image) at a p (omega arith) e
    rest_halt Content.associative at a p e = dense_halt (suc (length image)) 0 at a p (omega arith) e
    rest_halt (Content.ordered c) at a p e = items_halt c at a p e

    node_halt : {at q a p : ℕ} {r : Record} {f : Rest} → Took s image bs at r q → Value s r f → Stops (rest v image s f q) a p
        → Halted keyed Sort.value (suc left) at a p
    unfolding past_record
    node_halt {q} {a} {p} t y e =
        let x = rest_halt (content y.what) q a p (rw y.follows at e) in
        halted (past_record t y.named x.reached) (Begins.node y.looks x.begins) x.refuses

  -- a value within the levels that are left
  pub value_halt : (left at a p : ℕ) → Stops (value left image s at) a p → Halted keyed Sort.value left at a p
  unfolding value no_record
  value_halt zero at a p e =
      halted (no_record e.1) Begins.value
      (picked (λ (b : ℕ). a ≡ b → Refuses s (Slot.value 0) (drop at image) a) (value_at image at) 5 6
      (λ h f. rw f (Refuses.deep (valued_stands image at h))) (λ h f. rw f (Refuses.kind (not_stands image at h))) e.0)
  value_halt (suc left) at a p e =
      by (see_value s image bs at (rest (value left image s) image s))
      (λ q r f. node_halt left (value left image s) (sound s image bs left) (value_halt left))
      e
    where
      by : {d : Out} {k : Rest → ℕ → Out} → SeenValue s image bs at k d
          → ((q : ℕ) (r : Record) (f : Rest) → Took s image bs at r q → Value s r f → Stops (k f q) a p → Halted keyed Sort.value (suc left) at a p)
          → Stops d a p → Halted keyed Sort.value (suc left) at a p
      by (SeenValue.seen {r} {q} {f} t y) go e = go q r f t y e
      by (SeenValue.unseen n) go e = halted (no_record e.1) Begins.value (rw e.0 (Refuses.value n))

  -- an image that is refused
  pub refused_by : (a p : ℕ) → Stops (whole image (top_value image s 0)) a p → Refused image s a p
  refused_by a p e =
      whole_stops image (top_value image s 0) a p e
      (λ f. let x = value_halt limit.levels 0 a p f in refused_at x.slot x.reached (Opens.inside x.begins) x.refuses)
      (λ n f l i j.
      let y = sound s image bs limit.levels 0 n f in
      let x : Reached 0 p = record { records = y.records; rest = y.rest; right = y.right; here = y.here; place = j ∙ y.next } in
      refused_at Slot.nothing x (Opens.behind y.spells y.deep)
      (rw i (non_empty (λ z. Refuses s Slot.nothing z 6) y.rest (left_behind y.here (omega (arith, y.next))) λ b z. Refuses.past)))
