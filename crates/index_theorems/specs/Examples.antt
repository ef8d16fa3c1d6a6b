-- Indexes of small images, and paths looked up in one: two tables that the checker computes.
use Rattle.std.specs.Prelude.{ℕ, ◌≡◌, refl, List, [], ◌∷◌, map, Some, None, Option}
use Rattle.wire.specs.Utf8.{ends}
use Rattle.wire.specs.Field.{u8_at, u16_at, u24_at, u32_at, u64_at}
use Rattle.image.specs.Taking.{flag_at, short_at, long_at, u16, u32, u64, flag, short, long, zoned, body_at, record_at}
use Rattle.image.specs.Out as out
use Rattle.amf0.specs.Writing as writing
use Rattle.index.specs.declared.mark.Mark.{Mark}
use Rattle.index.specs.Mark.{mark, mark_at, rows_at}
use Rattle.index.specs.Order.{order_of, key_of}
use Rattle.index.specs.Keys.{role_at, own_of, pair_at, turn_of, rest, value}
use Rattle.index.specs.Index.{root_of, keys_of, Indexed, unindexed, unless, index_of}
use Rattle.index.specs.Find.{is_value, opens_at, starts_at, past_of, leads_of, upper_of, last_of, step_of, down_of, find_of}
use Rattle.index_theorems.specs.Way.{shorts}

infixr 0 ◌and◌
abbrev ◌and◌ : {A : Type 0} → A → List A → List A
e and es = e ∷ es

-- ---- making

-- an image over the text "ba", a room, and what the index of it comes to
record Example : Type 0 where
  image : List ℕ
  room : ℕ
  result : Indexed

infix 1 ◌room◌gives◌
abbrev ◌room◌gives◌ : List ℕ → ℕ → Indexed → Example
i room r gives x = record { image = i; room = r; result = x }

abbrev indexed : List Mark → Indexed
indexed ms = record { answer = 0; keys = ms }

abbrev text : List ℕ
text = 0x62 ∷ 0x61 ∷ []

-- the record of a key that is the byte at a place of the text, and then these
abbrev key : ℕ → List ℕ → List ℕ
key p r = 0x20 ∷ 0x00 ∷ 0x00 ∷ p ∷ 0x00 ∷ 0x01 ∷ r

-- { b: true, a: null }
abbrev pairs : List ℕ
pairs = 0x03 ∷ key 0 (0x01 ∷ 0x01 ∷ key 1 (0x05 ∷ 0x09 ∷ []))

-- a file with b: 0A with one object { a: null }, and an a that is null
abbrev file : List ℕ
file =
    0x33 ∷ 0x00 ∷ 0x00 ∷ 0x00 ∷ 0x00 ∷ 0x00 ∷ 0x00 ∷ 0x00 ∷ 0x00 ∷ 0x00
    ∷ key 0 (0x0A ∷ 0x00 ∷ 0x00 ∷ 0x00 ∷ 0x01 ∷ 0x03 ∷ key 1 (0x05 ∷ 0x09 ∷ key 1 (0x05 ∷ [])))

-- an ECMA array with a null without a key and then b: undefined
abbrev dense : List ℕ
dense = 0x08 ∷ 0x00 ∷ 0x00 ∷ 0x00 ∷ 0x02 ∷ 0x05 ∷ key 0 (0x06 ∷ 0x09 ∷ [])

-- marks stand here in the order of reading: depth, container, key and value
abbrev table : List Example
table =
    pairs room 26 gives indexed (mark 2 0 1 7 ∷ mark 2 0 9 15 ∷ [])
    and pairs room 25 gives unindexed 4
    and file room 40 gives indexed (mark 1 0 10 16 ∷ mark 3 21 22 28 ∷ mark 1 0 30 36 ∷ [])
    and dense room 13 gives indexed (mark 2 0 6 12 ∷ [])
    and 0x05 ∷ [] room 0 gives indexed []
    and 0x05 ∷ 0x00 ∷ [] room 0 gives unindexed 6
    and 0x03 ∷ key 2 (0x05 ∷ 0x09 ∷ []) room 0 gives unindexed 6
    and 0x30 ∷ 0x00 ∷ 0x00 ∷ 0x00 ∷ 0x00 ∷ [] room 13 gives unindexed 6
    and [] room 13 gives unindexed 6
    and []

pub examples : map (λ e. index_of e.image text e.room) table ≡ map (λ e. e.result) table
unfolding keys_of root_of rest value own_of pair_at turn_of unless rows_at mark_at out.bytes writing.value_at record_at body_at flag_at short_at long_at u16 u32 u64 flag
    short long zoned u8_at u16_at u24_at u32_at u64_at ends
examples = refl

-- ---- looking up

-- an image, marks in order with a mark of zeros behind them, a path, and the way that is found
record Look : Type 0 where
  image : List ℕ
  marks : List Mark
  path : List ℕ
  result : (Option ℕ)

infix 1 ◌among◌by◌finds◌
abbrev ◌among◌by◌finds◌ : List ℕ → List Mark → List ℕ → (Option ℕ) → Look
i among ms by p finds w = record { image = i; marks = ms; path = p; result = w }

abbrev zeros : List Mark
zeros = mark 0 0 0 0 ∷ []

abbrev marked : List Mark
marked = mark 2 0 9 15 ∷ mark 2 0 1 7 ∷ zeros

abbrev filed : List Mark
filed = mark 1 0 30 36 ∷ mark 1 0 10 16 ∷ mark 3 21 22 28 ∷ zeros

abbrev densed : List Mark
densed = mark 2 0 6 12 ∷ zeros

-- the key a, the key b
abbrev a_key : List ℕ
a_key = 0x61 ∷ []

abbrev b_key : List ℕ
b_key = 0x62 ∷ []

-- The path ba finds nothing in the file, since a strict array is never stepped into. A path that is cut short finds nothing, nor does any but the empty one among
-- zeros. In the last a mark names a place for its value that is not behind its key.
abbrev looks_table : List Look
looks_table =
    pairs among marked by shorts (a_key ∷ []) finds Some 15
    and pairs among marked by shorts (b_key ∷ []) finds Some 7
    and pairs among marked by [] finds Some 0
    and pairs among marked by shorts ([] ∷ []) finds None
    and pairs among marked by shorts (b_key ∷ a_key ∷ []) finds None
    and pairs among marked by (0x00 ∷ 0x01 ∷ []) finds None
    and pairs among marked by (0x00 ∷ 0x01 ∷ 0x61 ∷ 0x00 ∷ []) finds None
    and pairs among zeros by shorts (a_key ∷ []) finds None
    and pairs among zeros by [] finds Some 0
    and file among filed by shorts (a_key ∷ []) finds Some 36
    and file among filed by shorts (b_key ∷ []) finds Some 16
    and file among filed by shorts (b_key ∷ a_key ∷ []) finds None
    and dense among densed by shorts (b_key ∷ []) finds Some 12
    and (0x05 ∷ []) among zeros by [] finds Some 0
    and (0x30 ∷ 0x00 ∷ 0x00 ∷ 0x00 ∷ 0x00 ∷ []) among zeros by [] finds None
    and pairs among mark 2 0 1 8 ∷ zeros by shorts (b_key ∷ []) finds None
    and []

pub looks : map (λ x. find_of x.image text x.marks x.path) looks_table ≡ map (λ x. x.result) looks_table
unfolding find_of down_of step_of last_of upper_of leads_of past_of starts_at opens_at is_value key_of role_at order_of record_at body_at flag_at short_at long_at u16 u32 u64 flag short long
    zoned u8_at u16_at u24_at u32_at u64_at
looks = refl
