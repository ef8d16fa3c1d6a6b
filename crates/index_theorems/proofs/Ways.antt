-- A path of keys leads down the tree exactly where looking it up in the index does.
use Rattle.std.specs.Prelude.{◌+◌, ◌≤◌, ◌<◌, ◌≡◌, ◌∷◌, ◌++◌, ◌⊎◌, Some, None, Option}
use Rattle.wire.proofs.Kit.{ℕ, refl, sym, ap, ◌∙◌, List, [], append-nil, true, false, inl, inr, ⊎_elim, arith, length}
use Rattle.wire.specs.Choice.{pick}
use Rattle.wire.specs.Field.{equal}
use Rattle.wire.proofs.Laws.{equal_same, equal_means, false_true, picked}
use Rattle.wire.proofs.Stands.{Here, cut, skip}
use Rattle.image.specs.declared.record.Record.{Record}
use Rattle.image.specs.Record.{size}
use Rattle.image.proofs.Laws.{size_some}
use Rattle.amf0.specs.Standard.{Sort, content, Tree}
use Rattle.amf0.specs.Shown.{laid, Right}
use Rattle.amf0.specs.Written.{Lead, Spells}
use Rattle.amf0.specs.Written.Lead.{keyed}
use Rattle.amf0_theorems.proofs.Puts.{laid_append, laid_length, laid_size, right_left, right_right, others}
use Rattle.index.specs.declared.mark.Mark.{Mark}
use Rattle.index.specs.Mark.{mark}
use Rattle.index.specs.Order.{key_of}
use Rattle.index.specs.Find.{has_pairs, opens_at, step_of, thence}
use Rattle.index_theorems.specs.Way.{marks, Sub, Perhaps, or_else, last_in, below, onward, way, place_of}
use Rattle.index_theorems.specs.Way.Perhaps.{nowhere, found}
use Rattle.index_theorems.specs.Stand.{In}
use Rattle.index.proofs.Rows.{cases}
use Rattle.index_theorems.proofs.Lookup.{fits_is}
use Rattle.index_theorems.proofs.Latest.{in_both, in_left, in_right, Kept, step_finds, step_misses}
use Rattle.index_theorems.proofs.Marks.{due_of}
use Rattle.index_theorems.proofs.Stand.{key_there, opens_there, no_pairs}

-- ---- where the containers stand

-- the container is this one, or stands among the records
unfoldable pub Near : ℕ → ℕ → ℕ → Mark → Type 0
Near place at n e = (e.container ≡ place) ⊎ ((at ≤ e.container) × (e.container < n))

pub near : {s : List ℕ} {l : Lead} {k : Sort} {t : Tree k} {rs : List Record} (c : Spells s l k t rs) (place d at n : ℕ) → n ≡ at + length (laid rs)
    → (e : Mark) → In e (marks c place d at) → Near place at n e
unfolding marks Near
near (Spells.node {r} {rs} q c) place d at n m e i =
    let l = laid_size r rs in
    let b = size_some r in
    ⊎_elim (λ (p : e.container ≡ at). inr (omega arith, omega arith)) (λ p. inr (omega arith, omega arith))
    (near c at (d + 1) (at + size r) n (omega arith) e i)
near (Spells.none q) place d at n m e i = absurd i
near (Spells.property {r} {rs} {qs} q v ps) place d at n m e i =
    let l = laid_size r (rs ++ qs) in
    let b = laid_length rs qs in
    ⊎_elim (λ p. inl (ap (λ (x : Mark). x.container) p))
    (λ j. ⊎_elim
    (λ u. ⊎_elim (λ p. inl p) (λ p. inr (omega arith, omega arith)) (near v place d (at + size r) (at + size r + length (laid rs)) refl e u))
    (λ u. ⊎_elim (λ p. inl p) (λ p. inr (omega arith, omega arith)) (near ps place d (at + size r + length (laid rs)) n (omega arith) e u))
    (in_both e (marks v place d (at + size r)) (marks ps place d (at + size r + length (laid rs))) j)) i
near Spells.nil place d at n m e i = absurd i
near (Spells.cons {rs} {qs} v vs) place d at n m e i =
    let b = laid_length rs qs in
    ⊎_elim
    (λ u. ⊎_elim (λ p. inl p) (λ p. inr (omega arith, omega arith)) (near v place d at (at + length (laid rs)) refl e u))
    (λ u. ⊎_elim (λ p. inl p) (λ p. inr (omega arith, omega arith)) (near vs place d (at + length (laid rs)) n (omega arith) e u))
    (in_both e (marks v place d at) (marks vs place d (at + length (laid rs))) i)
near (Spells.dense {rs} {qs} v ps) place d at n m e i =
    let b = laid_length rs qs in
    ⊎_elim
    (λ u. ⊎_elim (λ p. inl p) (λ p. inr (omega arith, omega arith)) (near v place d at (at + length (laid rs)) refl e u))
    (λ u. ⊎_elim (λ p. inl p) (λ p. inr (omega arith, omega arith)) (near ps place d (at + length (laid rs)) n (omega arith) e u))
    (in_both e (marks v place d at) (marks ps place d (at + length (laid rs))) i)
near (Spells.pairs ps) place d at n m e i = near ps place d at n m e i

-- of a value, it stands among the value's own records
pub near_value : {s : List ℕ} {t : Tree Sort.value} {rs : List Record} (c : Spells s keyed Sort.value t rs) (place d at : ℕ) (e : Mark)
    → In e (marks c place d at) → (at ≤ e.container) × (e.container < at + length (laid rs))
unfolding marks Near
near_value (Spells.node {r} {rs} q c) place d at e i =
    let l = laid_size r rs in
    let b = size_some r in
    ⊎_elim (λ (p : e.container ≡ at). (omega arith, omega arith)) (λ p. (omega arith, omega arith))
    (near c at (d + 1) (at + size r) (at + size r + length (laid rs)) refl e i)

-- ---- the latest pair of a key

module _ (s image : List ℕ) (place : ℕ) (key : List ℕ) where
  -- no mark of the container has that key
  abbrev pub NoneIn : List Mark → Type 0
  NoneIn l = (e : Mark) → In e l → e.container ≡ place → key_of image s e.key ≡ key → ⊥

  -- Among the marks l one is the latest of the container and the key; its value stands at `y`, and the marks of what stands there are m.
  pub record BestIn (l m : List Mark) (low y n : ℕ) : Type 0 where
    pub best : Mark
    pub among : In best l
    pub container : best.container ≡ place
    pub text : key_of image s best.key ≡ key
    pub value : best.value ≡ y
    pub latest : (e : Mark) → In e l → e.container ≡ place → key_of image s e.key ≡ key → (e ≡ best) ⊎ (e.key < best.key)
    pub owns : (e : Mark) → In e l → y ≤ e.container → e.container < y + n → In e m
    pub gives : (e : Mark) → In e m → In e l
    pub from : low ≤ y
    pub key_from : low ≤ best.key

  -- marks before them, of containers that stand before
  lift_none : (a b : List Mark) → ((e : Mark) → In e a → e.container ≡ place → ⊥) → NoneIn b → NoneIn (a ++ b)
  lift_none a b f g e i c k = ⊎_elim (λ j. f e j c) (λ j. g e j c k) (in_both e a b i)

  lift_best : {b m : List Mark} {mid y n : ℕ} (a : List Mark) (low : ℕ) → place < low → low ≤ mid
      → ((e : Mark) → In e a → (low ≤ e.container) × (e.container < mid)) → BestIn b m mid y n → BestIn (a ++ b) m low y n
  lift_best {b} a low p q f r = record {
    best = r.best;
    among = in_right r.best a b r.among;
    container = r.container;
    text = r.text;
    value = r.value;
    latest = λ e i c k. ⊎_elim (λ j. let x = f e j in absurd (omega arith)) (λ j. r.latest e j c k) (in_both e a b i);
    owns = λ e i g h. ⊎_elim (λ j. let x = f e j in absurd (omega (arith, r.from))) (λ j. r.owns e j g h) (in_both e a b i);
    gives = λ e i. in_right e a b (r.gives e i);
    from = omega (arith, r.from);
    key_from = omega (arith, r.key_from);
  }

  lift_key : {b m : List Mark} {mid y n : ℕ} (x : Mark) (low : ℕ) → x.container ≡ place → place < low → low ≤ mid → x.key < mid → BestIn b m mid y n
      → BestIn (x ∷ b) m low y n
  lift_key x low c p q k r = record {
    best = r.best;
    among = inr r.among;
    container = r.container;
    text = r.text;
    value = r.value;
    latest = λ e i d t.
        ⊎_elim (λ u. let z : e.key ≡ x.key = ap (λ (g : Mark). g.key) u in inr (omega (arith, r.key_from))) (λ j. r.latest e j d t) i;
    owns = λ e i g h. ⊎_elim (λ u. let z : e.container ≡ x.container = ap (λ (o : Mark). o.container) u in absurd (omega (arith, r.from))) (λ j. r.owns e j g h) i;
    gives = λ e i. inr (r.gives e i);
    from = omega (arith, r.from);
    key_from = omega (arith, r.key_from);
  }

  -- what stands below a found value is there
  pub record There (y : Sub s) (high : ℕ) : Type 0 where
    pub right : Right s y.records
    pub behind : List ℕ
    pub here : Here image y.at (laid y.records) behind
    pub upto : y.at + length (laid y.records) ≤ high

  abbrev pub Outcome : List Mark → (d low high : ℕ) → Perhaps s → Type 0
  Outcome l d low high nowhere = NoneIn l
  Outcome l d low high (found y) = BestIn l (marks y.spells place d y.at) low y.at (length (laid y.records)) × There y high

  lift : (p : Perhaps s) (a b : List Mark) (d low mid high : ℕ) → place < low → low ≤ mid → ((e : Mark) → In e a → (low ≤ e.container) × (e.container < mid))
      → Outcome b d mid high p → Outcome (a ++ b) d low high p
  lift nowhere a b d low mid high p q f o = lift_none a b (λ e i c. let x = f e i in omega arith) o
  lift (found y) a b d low mid high p q f o = (lift_best a low p q f o.0, o.1)

  module _ {t : Tree Sort.value} {rs : List Record} (c : Spells s keyed Sort.value t rs) (k : List ℕ) (d at w high : ℕ) (b : List Mark)
      (p : place < at) (some : 1 ≤ w) (text : key_of image s at ≡ k)
      (apart : (e : Mark) → In e b → (e.container ≡ place) ⊎ (at + w + length (laid rs) ≤ e.container))
      (there : There (record { tree = t; records = rs; spells = c; at = at + w }) high) where
    abbrev pub x : Mark
    x = mark d place at (at + w)

    abbrev pub sub : Sub s
    sub = record { tree = t; records = rs; spells = c; at = at + w }

    abbrev pub a : List Mark
    a = marks c place d (at + w)

    this_one : NoneIn b → k ≡ key → BestIn (x ∷ (a ++ b)) a at (at + w) (length (laid rs))
    this_one none q = record {
      best = x;
      among = inl refl;
      container = refl;
      text = text ∙ q;
      value = refl;
      latest = λ e i f g.
          ⊎_elim (λ u. inl u)
          (λ j. ⊎_elim (λ u. let n = near_value c place d (at + w) e u in absurd (omega arith)) (λ u. absurd (none e u f g)) (in_both e a b j)) i;
      owns = λ e i f g.
          ⊎_elim (λ u. let z : e.container ≡ place = ap (λ (o : Mark). o.container) u in absurd (omega arith))
          (λ j. ⊎_elim (λ u. u) (λ u. ⊎_elim (λ v. absurd (omega arith)) (λ v. absurd (omega arith)) (apart e u)) (in_both e a b j)) i;
      gives = λ e i. inr (in_left e a b i);
      from = omega arith;
      key_from = omega arith;
    }

    not_this : NoneIn b → equal k key ≡ false → NoneIn (x ∷ (a ++ b))
    not_this none q e i f g =
        ⊎_elim
        (λ u.
        let z : e.key ≡ at = ap (λ (o : Mark). o.key) u in
        let same : k ≡ key = sym text ∙ (rw z at g) in
        false_true (sym q ∙ ap (λ (l : List ℕ). equal l key) same ∙ equal_same key))
        (λ j. ⊎_elim (λ u. let n = near_value c place d (at + w) e u in omega arith) (λ u. none e u f g) (in_both e a b j)) i

    pub pair : (o : Perhaps s) → Outcome b d (at + w + length (laid rs)) high o → Outcome (x ∷ (a ++ b)) d at high (or_else s o (pick (equal k key) (found sub) nowhere))
    pair nowhere none =
        picked (Outcome (x ∷ (a ++ b)) d at high) (equal k key) (found sub) nowhere (λ q. (this_one none (equal_means k key q), there)) (λ q. not_this none q)
    pair (found y) o =
        (lift_key x at refl p (omega arith) (omega arith) (lift_best a (at + w) (omega arith) (omega arith) (λ e i. near_value c place d (at + w) e i) o.0), o.1)

  values_none : {n : ℕ} {t : Tree (Sort.values n)} {rs : List Record} (c : Spells s keyed (Sort.values n) t rs) (d at : ℕ) → place < at
      → (e : Mark) → In e (marks c place d at) → e.container ≡ place → ⊥
  unfolding marks
  values_none Spells.nil d at p e i f = i
  values_none (Spells.cons {rs} v vs) d at p e i f =
      ⊎_elim (λ u. let n = near_value v place d at e u in omega arith) (λ u. values_none vs d (at + length (laid rs)) (omega arith) e u f)
      (in_both e (marks v place d at) (marks vs place d (at + length (laid rs))) i)

  outcome : {l : Lead} {k : Sort} {t : Tree k} {rs : List Record} (c : Spells s l k t rs) → Right s rs → (z : List ℕ) (d at high : ℕ) → Here image at (laid rs) z
      → place < at → at + length (laid rs) ≤ high → Outcome (marks c place d at) d at high (last_in s c key at)
  unfolding last_in marks Near
  outcome (Spells.node {r} {i} {t} {rs} q c) g z d at high h p m = λ e j f k. let x = near_value (Spells.node q c) place d at e j in absurd (omega arith)
  outcome (Spells.none q) g z d at high h p m = λ e j f k. j
  outcome (Spells.property {r} {k} {v} {ps} {rs} {qs} q c b) g z d at high h p m =
      let o = laid_size r (rs ++ qs) in
      let w = laid_length rs qs in
      let y : ℕ = at + size r in
      let mid : ℕ = y + length (laid rs) in
      let j : Here image y (laid rs ++ laid qs) z = rw (laid_append rs qs) at (others s image r (rs ++ qs) z h) in
      let gb = right_right s rs qs g.2 in
      pair c k d at (size r) high (marks b place d mid) p (size_some r) (key_there s image at r (rs ++ qs) z k h g q)
      (λ e i. ⊎_elim (λ u. inl u) (λ u. inr u.0) (near b place d mid (mid + length (laid qs)) refl e i))
      (record { right = right_left s rs qs g.2; behind = laid qs ++ z; here = cut (laid rs) (laid qs) j; upto = omega arith })
      (last_in s b key mid) (outcome b gb z d mid high (skip (laid rs) (laid qs) j) (omega arith) (omega arith))
  outcome Spells.nil g z d at high h p m = λ e j f k. j
  outcome (Spells.cons {rs} {qs} c b) g z d at high h p m = λ e j f k. values_none (Spells.cons c b) d at p e j f
  outcome (Spells.dense {rs} {qs} c b) g z d at high h p m =
      let o : Here image at (laid rs ++ laid qs) z = rw (laid_append rs qs) at h in
      let mid : ℕ = at + length (laid rs) in
      let w = laid_length rs qs in
      lift (last_in s b key mid) (marks c place d at) (marks b place d mid) d at mid high p (omega arith) (λ e i. near_value c place d at e i)
      (outcome b (right_right s rs qs g) z d mid high (skip (laid rs) (laid qs) o) (omega arith) (omega arith))
  outcome (Spells.pairs c) g z d at high h p m = outcome c g z d at high h p m

-- ---- a step, and a path

module _ (s image : List ℕ) (es : List Mark) where
  -- a path of keys, looked up from a place on
  unfoldable pub looked : ℕ → List (List ℕ) → (Option ℕ)
  looked place [] = Some place
  looked place (key ∷ path) = thence image s es (step_of image s es place key) λ p. looked p path

module _ (s image : List ℕ) (all es : List Mark) (kept : Kept image s all es) where
  -- the marks of the containers that stand among a value's records are those of its keys
  pub record Owned (x : Sub s) : Type 0 where
    pub place : ℕ
    pub level : ℕ
    pub right : Right s x.records
    pub behind : List ℕ
    pub here : Here image x.at (laid x.records) behind
    pub owns : (e : Mark) → In e all → x.at ≤ e.container → e.container < x.at + length (laid x.records) → In e (marks x.spells place level x.at)
    pub gives : (e : Mark) → In e (marks x.spells place level x.at) → In e all

  pub record Goes (f : Option ℕ) (y : Sub s) : Type 0 where
    pub is : f ≡ Some y.at
    pub owned : Owned y

  abbrev pub Stepped : Perhaps s → (Option ℕ) → Type 0
  Stepped nowhere f = f ≡ None
  Stepped (found y) f = Goes f y

  either : (f : Option ℕ) {P : Type 0} → (f ≡ None → P) → ((v : ℕ) → f ≡ Some v → P) → P
  either (Some v) a b = b v refl
  either None a b = a refl

  module _ (key : List ℕ) (at n level : ℕ) (own : List Mark)
      (owns : (e : Mark) → In e all → at ≤ e.container → e.container < at + n → In e own) (gives : (e : Mark) → In e own → In e all) (some : 0 < n) where
    abbrev pub result : (Option ℕ)
    result = step_of image s es at key

    pub finish : opens_at image at ≡ true → (low : ℕ) → at ≤ low → (p : Perhaps s) → Outcome s image at key own level low (at + n) p → Stepped p result
    finish opens low q nowhere none =
        either result (λ f. f)
        (λ v f.
        let l = step_finds image s at key all es kept v f in
        let c = l.container in
        absurd (none l.pair (owns l.pair l.among (omega arith) (omega arith)) (sym c) (sym l.key_text)))
    finish opens low q (found y) o =
        let b = o.0 in
        let t = o.1 in
        let c = b.container in
        let fit = fits_is image s at key b.best (sym c) (sym b.text) in
        either result
        (λ f. absurd (step_misses image s at key all es kept opens f b.best (gives b.best b.among) fit))
        (λ v f.
        let l = step_finds image s at key all es kept v f in
        let d = l.container in
        let i = owns l.pair l.among (omega arith) (omega arith) in
        let w : l.pair.value ≡ y.at =
        ⊎_elim (λ u. ap (λ (g : Mark). g.value) u ∙ b.value) (λ u. absurd (omega (arith, l.latest b.best (gives b.best b.among) fit)))
        (b.latest l.pair i (sym d) (sym l.key_text)) in
        record {
          is = f ∙ ap Some (sym l.value ∙ w);
          owned = record {
            place = at;
            level = level;
            right = t.right;
            behind = t.behind;
            here = t.here;
            owns = λ g j h k. b.owns g (owns g j (omega (arith, b.from)) (omega (arith, t.upto))) h k;
            gives = λ g j. gives g (b.gives g j);
          };
        })

  pub stepped : (key : List ℕ) {t : Tree Sort.value} {rs : List Record} (c : Spells s keyed Sort.value t rs) (at : ℕ)
      → Owned (record { tree = t; records = rs; spells = c; at = at }) → Stepped (below s c key at) (step_of image s es at key)
  unfolding below marks step_of
  stepped key (Spells.node {r} {i} {t} {rs} q c) at o =
      let l = laid_size r rs in
      let b = size_some r in
      let w = opens_there s image at r rs o.behind i o.here o.right q in
      cases (has_pairs (due_of (content i)))
      (λ h.
      finish key at (length (laid (r ∷ rs))) (o.level + 1) (marks c at (o.level + 1) (at + size r)) o.owns o.gives (omega arith)
      (w ∙ h) (at + size r) (omega arith) (last_in s c key (at + size r))
      (outcome s image at key c o.right.2 o.behind (o.level + 1) (at + size r) (at + length (laid (r ∷ rs)))
      (others s image r rs o.behind o.here) (omega arith) (omega arith)))
      (λ h. rw (no_pairs s image (content i) c key (at + size r) h, w, h) refl)

  pub leads : (path : List (List ℕ)) (x : Sub s) → Owned x → looked s image es x.at path ≡ place_of s (way s x path)
  unfolding looked way
  leads [] x o = refl
  leads (key ∷ path) x o = go (below s x.spells key x.at) (stepped key x.spells x.at o) (leads path)
    where
      go : (p : Perhaps s) → Stepped p (step_of image s es x.at key) → ((y : Sub s) → Owned y → looked s image es y.at path ≡ place_of s (way s y path))
          → thence image s es (step_of image s es x.at key) (λ q. looked s image es q path) ≡ place_of s (onward s p λ y. way s y path)
      go nowhere f h = rw f
      go (found y) f h = rw f.is (h y f.owned)

-- The tree itself: a path leads, from the image's first record on, to the place of the value to which it leads down the tree.
pub path_leads : (s image : List ℕ) {t : Tree Sort.value} {rs : List Record} (c : Spells s keyed Sort.value t rs) → Right s rs → image ≡ laid rs → (es : List Mark)
    (kept : Kept image s (marks c 0 1 0) es) (path : List (List ℕ))
    → looked s image es 0 path ≡ place_of s (way s (record { tree = t; records = rs; spells = c; at = 0 }) path)
path_leads s image {t} {rs} c g e es kept path =
    leads s image (marks c 0 1 0) es kept path (record { tree = t; records = rs; spells = c; at = 0 })
    (record { place = 0; level = 1; right = g; behind = []; here = record { same = e ∙ sym (append-nil (laid rs)) }; owns = λ x i h k. i; gives = λ x i. i })
