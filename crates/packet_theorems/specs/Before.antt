-- What the cut came to before a length could say that it is not known.
use Rattle.std.specs.Prelude.{ℕ, zero, suc, ◌+◌, ◌-◌, ◌≡◌, List, [], ◌∷◌, length, leb}
use Rattle.wire.specs.Choice.{pick}
use Rattle.wire.specs.Number.{number}
use Rattle.wire.specs.Field.{to, bytes_at, u16_at, got, got_to}
use Rattle.image.specs.Kind as kind
use Rattle.packet.specs.declared.head.Entry.{Entry}
use Rattle.packet.specs.Head.{unknown, front_of, head_at, Head}
use Rattle.packet.specs.Entry.{Trail, reached, stopped, puts, ◌thence◌, end_at, Cut, stops, strict}
use Rattle.wire.specs.Answer.{denied}

-- an entry whose value begins at v
abbrev pub spanned : List ℕ → Entry → ℕ → Head
spanned s e v = pick (leb (v + e.length) (length s)) (got_to e (to (v + e.length))) (denied 2 (v - 4))

unfoldable pub entry_at : ℕ → List ℕ → ℕ → Head
entry_at kind s at = got denied (head_at kind s at) (spanned s)

unfoldable pub walk : ℕ → List ℕ → ℕ → ℕ → Trail
walk kind s zero at = reached [] at
walk kind s (suc n) at = got stopped (entry_at kind s at) λ e q. puts (e ∷ []) (walk kind s n q)

abbrev pub rest : List ℕ → ℕ → ℕ → Trail
rest s h q = walk kind.header s h q thence λ e. got stopped (u16_at s e) λ m f. walk kind.message s m f thence end_at s

unfoldable pub cut_of : List ℕ → Cut
cut_of s = got stops (front_of s) λ h q. strict (rest s h q)

-- the cut of then, and that of now: the same, but where a length that says that it is not known refused the one of then
pub data Measures (s : List ℕ) : Cut → Cut → Type 0 where
  same : {x : Cut} → Measures s x x
  measured : {p : ℕ} {x : Cut} → number (bytes_at 4 s p) ≡ unknown → Measures s (stops 2 p) x
