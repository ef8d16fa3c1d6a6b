-- What reading a file finds, and what it comes to in a room: the rule "LSO file" (docs/DEMANDS.md).
use Rattle.std.specs.Prelude.{ℕ, zero, suc, List, [], ◌∷◌, ◌++◌, length, leb, eqb, Result, Ok}
use Rattle.wire.specs.Choice.{pick}
use Rattle.wire.specs.Limit as limit
use Rattle.wire.specs.Field.{to, u32_at, text_at, tag_at, got, got_text, past_tag}
use Rattle.wire.specs.Answer.{Verdict, denied}
use Rattle.wire.specs.declared.cursor.Cursor.{Cursor}
use Rattle.image.specs.declared.record.Record.TheVariants.{Key, Lso}
use Rattle.image.specs.Due.{Due, end, stop, due, ◌>>=◌, on_end}
use Rattle.image.specs.Whole.{Whole, bytes, accepted, refused, in_room, all}
use Rattle.amf0.specs.Reading.{top_value}
use Rattle.lso.specs.File.{version, signature}

-- ---- the fields

-- n bytes of zero, each a field
unfoldable pub zeros_at : ℕ → List ℕ → ℕ → Result Cursor Verdict
zeros_at zero s at = Ok (to at)
zeros_at (suc n) s at = past_tag denied (tag_at (0 ∷ []) s at) λ p. zeros_at n s p

-- the header, and then the file's record is due
unfoldable pub header_at : List ℕ → Due
header_at s =
    past_tag stop (tag_at version s 0) λ p.
    got stop (u32_at s p) λ stored q.
    past_tag stop (tag_at signature s q) λ e.
    got_text stop (text_at 2 s e) λ name n f.
    past_tag stop (zeros_at 4 s f) λ g.
    due (Lso stored name n) 0 (end g)

-- the zero behind a value
abbrev pub closing : List ℕ → ℕ → Due
closing s at = past_tag stop (tag_at (0 ∷ []) s at) end

-- an element with its key: the key's record is due at once, then its value is read, and a zero
abbrev pub keyed_at : List ℕ → (at place size value : ℕ) → Due
keyed_at s at place size value = due (Key place size) at (top_value s value >>= closing s)

unfoldable pub element_at : List ℕ → ℕ → Due
element_at s at = got_text stop (text_at 2 s at) (keyed_at s at)

-- ---- the body

-- an element that was read: where it begins, its key's place and length, where its value begins, where it ends, and what was read
pub record Element : Type 0 where
  pub at : ℕ
  pub place : ℕ
  pub size : ℕ
  pub value : ℕ
  pub next : ℕ
  pub read : Due

-- what was read of a body: its elements, up to which place, and what was tried from there on and stopped
pub record Body : Type 0 where
  pub elements : List Element
  pub at : ℕ
  pub tried : Due

-- an element that ends is taken, and the body goes on behind it; the first that stops is only tried
abbrev pub takes : Element → Body → Body
takes e b = record { elements = e ∷ b.elements; at = b.at; tried = b.tried }

abbrev pub tries : ℕ → Due → Body
tries at d = record { elements = []; at = at; tried = d }

-- each element takes bytes, so the input's length bounds their number
unfoldable pub body_at : List ℕ → ℕ → ℕ → Body
body_at s zero at = tries at (stop 2 at)
body_at s (suc fuel) at =
    got_text (λ a w. tries at (stop a w)) (text_at 2 s at) λ p n q.
    on_end (keyed_at s at p n q)
    (λ e. takes (record { at = at; place = p; size = n; value = q; next = e; read = keyed_at s at p n q }) (body_at s fuel e))
    (λ a w. tries at (keyed_at s at p n q))

-- the bytes of the elements' records
abbrev pub kept : List Element → List ℕ
kept [] = []
kept (e ∷ es) = bytes e.read ++ kept es

-- all that falls due in a body: what its elements gave, and then what was tried
abbrev pub due_in : List Element → Due → Due
due_in [] d = d
due_in (e ∷ es) d = e.read >>= λ n. due_in es d

-- ---- what a reading comes to

-- all that falls due behind a header that ends at p, and in it
abbrev pub ever_due : List ℕ → ℕ → Due
ever_due s p = let b = body_at s (length s) p in header_at s >>= λ q. due_in b.elements b.tried

-- 2 and 3 end the body; any other answer ends the call
abbrev pub halted : (answer place : ℕ) → Whole → Whole
halted a p w = pick (eqb a 2) w (pick (eqb a 3) w (refused a p))

-- behind a header that ends at p: all of that needs room, also the records of the element that was tried and is dropped
abbrev pub settle : List ℕ → ℕ → ℕ → Whole
settle s p room =
    let b = body_at s (length s) p in
    in_room room [] (ever_due s p) accepted λ a q. halted a q (accepted b.at (bytes (header_at s) ++ kept b.elements))

unfoldable pub incomplete_of : List ℕ → ℕ → Whole
incomplete_of s room = pick (leb (length s) limit.bytes) (on_end (header_at s) (λ p. settle s p room) refused) (refused 1 0)

-- the whole reading: bytes left over are 3, after everything else
unfoldable pub whole_of : List ℕ → ℕ → Whole
whole_of s room = all s (incomplete_of s room)
