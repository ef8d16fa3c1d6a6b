-- Records that tell a tree spell it, and those that a reading makes can stand in an image.
use Rattle.std.specs.Prelude.{◌+◌, ◌≤◌, ◌≡◌, ◌∷◌, ◌++◌}
use Rattle.wire.proofs.Kit.{ℕ, refl, sym, ap, ◌∙◌, List, [], append_assoc, append-nil, arith, length}
use Rattle.wire.specs.Limit as limit
use Rattle.wire.proofs.Stands.{Here}
use Rattle.image.specs.declared.record.Record.{Record}
use Rattle.image.specs.Due.{Due, end}
use Rattle.image.specs.Whole.{bytes}
use Rattle.amf0.specs.Reading.{top_value}
use Rattle.amf0.specs.Standard.{Sort, Tree, depth, Encodes, Content, content, sort_of}
use Rattle.amf0.specs.Standard.Tree.{node, none, property, nil, cons}
use Rattle.amf0.specs.Shown.{Word, told, words, Right, Shows}
use Rattle.amf0.specs.Written.{Spells, Images, lead_of}
use Rattle.amf0.specs.Written.Lead.{keyed}
use Rattle.amf0_theorems.proofs.Complete.{complete}
use Rattle.amf0_theorems.proofs.Telling.{records_of, bytes_laid, reads, recorded}

-- ---- from words to records

-- in an 08 there need be no value without a key
led : {s : List ℕ} (c : Content) {t : Tree (sort_of c)} {rs : List Record} → Spells s keyed (sort_of c) t rs → Spells s (lead_of c) (sort_of c) t rs
led Content.nothing p = p
led Content.named p = p
led Content.associative p = Spells.pairs p
led (Content.ordered n) p = p

-- records that tell a tree and then more
record Split (s : List ℕ) (k : Sort) (t : Tree k) (ws : List Word) (rs : List Record) : Type 0 where
  first : List Record
  rest : List Record
  same : rs ≡ first ++ rest
  spells : Spells s keyed k t first
  tells : words s rest ≡ ws

regroup : {rs b : List Record} (a c d : List Record) → rs ≡ a ++ b → b ≡ c ++ d → rs ≡ (a ++ c) ++ d
regroup a c d e f = e ∙ (ap (λ x. a ++ x) f ∙ sym (append_assoc a c d))

split : {k : Sort} (s : List ℕ) (t : Tree k) (ws : List Word) (rs : List Record) → words s rs ≡ told t ws → Split s k t ws rs
split s (node i t) ws [] e = let z : ◌≡◌ {A = ℕ} 0 1 = cc in absurd (omega arith)
split s (node i t) ws (r ∷ rs) e =
    let p = split s t ws rs (cc) in
    let c : Spells s keyed Sort.value (node i t) (r ∷ p.first) = Spells.node {r = r} {i = i} (cc) (led (content i) p.spells) in
    record { first = r ∷ p.first; rest = p.rest; same = ap (λ x. r ∷ x) p.same; spells = c; tells = p.tells }
split s none ws [] e = let z : ◌≡◌ {A = ℕ} 0 1 = cc in absurd (omega arith)
split s none ws (r ∷ rs) e = record { first = r ∷ []; rest = rs; same = refl; spells = Spells.none {r = r} (cc); tells = cc }
split s (property k v ps) ws [] e = let z : ◌≡◌ {A = ℕ} 0 1 = cc in absurd (omega arith)
split s (property k v ps) ws (r ∷ rs) e =
    let p = split s v (told ps ws) rs (cc) in
    let q = split s ps ws p.rest p.tells in
    let c : Spells s keyed Sort.properties (property k v ps) (r ∷ (p.first ++ q.first)) = Spells.property {r = r} {k = k} (cc) p.spells q.spells in
    let all = ap (λ x. r ∷ x) (regroup p.first q.first q.rest p.same q.same) in
    record { first = r ∷ (p.first ++ q.first); rest = q.rest; same = all; spells = c; tells = q.tells }
split s nil ws rs e = record { first = []; rest = rs; same = refl; spells = Spells.nil; tells = e }
split s (cons v vs) ws rs e =
    let p = split s v (told vs ws) rs e in
    let q = split s vs ws p.rest p.tells in
    let all = regroup p.first q.first q.rest p.same q.same in
    record { first = p.first ++ q.first; rest = q.rest; same = all; spells = Spells.cons p.spells q.spells; tells = q.tells }

no_words : (s : List ℕ) (rs : List Record) → words s rs ≡ [] → rs ≡ []
no_words s [] e = refl
no_words s (r ∷ rs) e = let z : ◌≡◌ {A = ℕ} 0 1 = cc in absurd (omega arith)

pub spelled : (s : List ℕ) (t : Tree Sort.value) (rs : List Record) → words s rs ≡ told t [] → Spells s keyed Sort.value t rs
spelled s t rs e =
    let p = split s t [] rs e in
    let f : rs ≡ p.first = p.same ∙ (ap (λ x. p.first ++ x) (no_words s p.rest p.tells) ∙ append-nil p.first) in
    rw f p.spells

pub images : {s : List ℕ} {t : Tree Sort.value} {image : List ℕ} → Shows s t image → Images s t image
images {s} {t} w = record { records = w.records; right = w.right; spells = spelled s t w.records w.tells; lies = w.lies }

-- ---- the records that a reading makes

-- what is read of an encoding that stands at a place can stand in an image
pub read_right : {t : Tree Sort.value} {x : List ℕ} (s r : List ℕ) (at : ℕ) → Encodes Sort.value t x → Here s at x r → depth t ≤ limit.levels
    → length s ≤ limit.bytes → Right s (records_of (top_value s at))
read_right {x} s r at e h d l =
    rw (complete e s r at (at + length x) limit.levels (length x) h refl d (omega arith)) ((recorded e s r limit.levels at (end (at + length x)) h).right l tt)

-- and shows its tree
pub shown : {t : Tree Sort.value} {x : List ℕ} (s r : List ℕ) (at : ℕ) → Encodes Sort.value t x → Here s at x r → depth t ≤ limit.levels
    → length s ≤ limit.bytes → Shows s t (bytes (top_value s at))
shown s r at e h d l =
    let u : Due = top_value s at in
    record { records = records_of u; right = read_right s r at e h d l; tells = (reads limit.levels s r at e h d).tells; lies = bytes_laid u }
