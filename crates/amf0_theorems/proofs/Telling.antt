-- The records of a row of bytes tell the tree that it is, and no other.
use Rattle.std.specs.Prelude.{◌+◌, ◌≤◌, ◌≡◌, ◌∷◌, ◌++◌}
use Rattle.wire.proofs.Kit.{ℕ, zero, suc, refl, ap, ap₂, ◌∙◌, List, [], arith, length, map, length-append}
use Prim.Native.Nat.{pred}
use Rattle.wire.specs.Number.{digits}
use Rattle.wire.proofs.Stands.{Here, cut, skip, there, inside}
use Rattle.image.specs.declared.record.Record.{Record}
use Rattle.image.specs.Due.{Due, end, stop, seen, due, Ends}
use Rattle.image.specs.Whole.{bytes}
use Rattle.amf0.specs.Reading.{value}
use Rattle.amf0.specs.Standard.{Item, Sort, Tree, depth, follows, Encodes}
use Rattle.amf0.specs.Standard.UTF-8.{short}
use Rattle.amf0.specs.Standard.Tree.{node, none, property, nil, cons}
use Rattle.amf0.specs.Shown.{Word, told, words, laid, Right}
use Rattle.amf0.specs.Shown.Word.{item, name, close, other}
use Rattle.amf0_theorems.proofs.Complete.{marks, past, complete}
use Rattle.amf0_theorems.proofs.Marked.{marked, of_item, fits, small}
use Rattle.wire.specs.Limit as limit
use Rattle.image.specs.declared.record.Record.TheVariants as R
use Rattle.image.specs.Record.{unplaced}

-- ---- a tree is known by what is told of it: told from right to left, its parts lie on a stack

data Node : Type 0 where
  one : Tree Sort.value → Node
  some : Tree Sort.properties → Node

-- a stack with nothing of use on it
lost : {k : Sort} → Tree k → Tree k × List Node
lost t = (t, [])

pop : (k : Sort) → List Node → Tree k × List Node
pop Sort.value [] = lost (node Item.null nil)
pop Sort.value (some ps ∷ st) = lost (node Item.null nil)
pop Sort.value (one v ∷ st) = (v, st)
pop Sort.properties [] = lost none
pop Sort.properties (one v ∷ st) = lost none
pop Sort.properties (some ps ∷ st) = (ps, st)
pop (Sort.values n) st = row n st
  where
    row : (n : ℕ) → List Node → Tree (Sort.values n) × List Node
    row zero st = (nil, st)
    row (suc n) [] = lost (cons (node Item.null nil) (row n []).0)
    row (suc n) (some ps ∷ st) = lost (cons (node Item.null nil) (row n []).0)
    row (suc n) (one v ∷ st) = (cons v (row n st).0, (row n st).1)

step : Word → List Node → List Node
step (item i) st = let p = pop (follows i) st in one (node i p.0) ∷ p.1
step (name k) st = let p = pop Sort.value st in let q = pop Sort.properties p.1 in some (property k p.0 q.0) ∷ q.1
step close st = some none ∷ st
step other st = st

stack : List Word → List Node
stack [] = []
stack (w ∷ ws) = step w (stack ws)

on : {k : Sort} → Tree k → List Node → List Node
on (node i t) st = one (node i t) ∷ st
on none st = some none ∷ st
on (property k v ps) st = some (property k v ps) ∷ st
on nil st = st
on (cons v vs) st = one v ∷ on vs st

pop_on : {k : Sort} (t : Tree k) (st : List Node) → pop k (on t st) ≡ (t, st)
unfolding pop on
pop_on (node i t) st = refl
pop_on none st = refl
pop_on (property k v ps) st = refl
pop_on nil st = refl
pop_on (cons v vs) st = rw (pop_on vs st)

on_value : (v : Tree Sort.value) (st : List Node) → on v st ≡ one v ∷ st
unfolding on
on_value (node i t) st = refl

stacked : {k : Sort} (t : Tree k) (r : List Word) → stack (told t r) ≡ on t (stack r)
unfolding stack step on
stacked (node i t) r = rw (stacked t r, pop_on t (stack r))
stacked none r = refl
stacked (property k v ps) r = rw (stacked v (told ps r), pop_on v (stack (told ps r)), stacked ps r, pop_on ps (stack r))
stacked nil r = refl
stacked (cons v vs) r = rw (stacked v (told vs r), stacked vs r, on_value v (on vs (stack r)))

pub same_tree : (v w : Tree Sort.value) → told v [] ≡ told w [] → v ≡ w
same_tree v w e = cc (stacked v [], stacked w [], ap stack e, on_value v (stack []), on_value w (stack []))

-- ---- the records of a row tell the tree

-- the records of a reading
abbrev pub records_of : Due → List Record
records_of (end n) = []
records_of (stop a p) = []
records_of (seen fact d) = records_of d
records_of (due r p d) = r ∷ records_of d

pub bytes_laid : (d : Due) → bytes d ≡ laid (records_of d)
unfolding bytes
bytes_laid (end n) = refl
bytes_laid (stop a p) = refl
bytes_laid (seen fact d) = bytes_laid d
bytes_laid (due r p d) = rw (bytes_laid d)

-- the records of a tree and then more, but for places
abbrev pub of_tree_lem : {k : Sort} → Tree k → List Record → List Record
of_tree_lem (node i t) r = of_item i ∷ of_tree_lem t r
of_tree_lem none r = R.ObjectEnd ∷ r
of_tree_lem (property k v ps) r = R.Key 0 (length k) ∷ of_tree_lem v (of_tree_lem ps r)
of_tree_lem nil r = r
of_tree_lem (cons v vs) r = of_tree_lem v (of_tree_lem vs r)

-- the records of a row of bytes, before those of another reading: they tell its tree, are the tree's but for places, and can stand in an image; the whole
-- ends where the other reading does
pub record Recorded {k : Sort} {t : Tree k} {x : List ℕ} (e : Encodes k t x) (s : List ℕ) (left at : ℕ) (d : Due) : Type 0 where
  pub tells : words s (records_of (marks e left at d)) ≡ told t (words s (records_of d))
  pub alike : map unplaced (records_of (marks e left at d)) ≡ of_tree_lem t (map unplaced (records_of d))
  pub right : length s ≤ limit.bytes → Right s (records_of d) → Right s (records_of (marks e left at d))
  pub ends : (n : ℕ) → Ends d n → Ends (marks e left at d) n

pub recorded : {k : Sort} {t : Tree k} {x : List ℕ} (e : Encodes k t x) (s r : List ℕ) (left at : ℕ) (d : Due) → Here s at x r → Recorded e s left at d
unfolding marks
recorded (Encodes.node {x} {y} row e) s r left at d h =
    let m = marked row in
    let b = recorded e s r (pred left) (at + length x) d (skip x y h) in
    record {
      tells = ap₂ ◌∷◌ (m.tells s (y ++ r) at (cut x y h)) b.tells;
      alike = rw (m.alike at, b.alike);
      right = λ l g. let w = m.right s (y ++ r) at l (cut x y h) in (w.0, w.1, b.right l g);
      ends = b.ends;
    }
recorded Encodes.end s r left at d h =
    record { tells = refl; alike = refl; right = λ l g. (fits small small small small (λ n z e. cc), tt, g); ends = λ n g. g }
recorded (Encodes.departure_named_end (short k b u) o) s r left at d h =
    record { tells = refl; alike = refl; right = λ l g. (fits small small small small (λ n z e. cc), tt, g); ends = λ n g. g }
recorded (Encodes.property {v} {y} {z} (short k i u) e f) s r left at d h =
    let q : ℕ = at + 2 + length k in
    let c = past k (y ++ z) h in
    let a = recorded e s (z ++ r) left q (marks f left (q + length y) d) (cut y z c) in
    let b = recorded f s r left (q + length y) d (skip y z c) in
    let key = there (length k) (cut k (y ++ z) (skip (digits 2 (length k)) (k ++ (y ++ z)) h)) refl in
    let within : q ≤ length s = omega (arith, inside h (omega arith), length-append k (y ++ z)) in
    record {
      tells = ap₂ (λ w ws. name w ∷ ws) key (a.tells ∙ ap (told v) b.tells);
      alike = rw (a.alike, b.alike);
      right = λ l g. (fits (omega arith) i small small (λ n z e. cc), (record { inside = within; right = rw key u }, tt), a.right l (b.right l g));
      ends = λ n g. a.ends n (b.ends n g);
    }
recorded Encodes.nil s r left at d h = record { tells = refl; alike = refl; right = λ l g. g; ends = λ n g. g }
recorded (Encodes.cons {v} {x} {y} e f) s r left at d h =
    let a = recorded e s (y ++ r) left at (marks f left (at + length x) d) (cut x y h) in
    let b = recorded f s r left (at + length x) d (skip x y h) in
    record {
      tells = a.tells ∙ ap (told v) b.tells;
      alike = rw (a.alike, b.alike);
      right = λ l g. a.right l (b.right l g);
      ends = λ n g. a.ends n (b.ends n g);
    }

-- a row of a tree's, wherever it stands, is read as that tree
pub record Reads (left : ℕ) (s : List ℕ) (at n : ℕ) (t : Tree Sort.value) : Type 0 where
  pub ends : Ends (value left s at) n
  pub tells : words s (records_of (value left s at)) ≡ told t []

pub reads : {t : Tree Sort.value} {x : List ℕ} (left : ℕ) (s r : List ℕ) (at : ℕ) → Encodes Sort.value t x → Here s at x r → depth t ≤ left
    → Reads left s at (at + length x) t
reads {x} left s r at e h d =
    let c = complete e s r at (at + length x) left (length x) h refl d (omega arith) in
    let b = recorded e s r left at (end (at + length x)) h in
    record { ends = rw c (b.ends (at + length x) refl); tells = ap (λ g. words s (records_of g)) c ∙ b.tells }
