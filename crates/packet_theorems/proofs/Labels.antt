-- The label of an entry, and its head, are gone over just as the grammar of refusals has them.
use Rattle.std.specs.Prelude.{◌+◌, ◌<◌, ◌≡◌, ◌∷◌, ◌++◌, Ok, Err}
use Rattle.wire.proofs.Kit.{ℕ, refl, sym, ap, ◌∙◌, List, [], append-nil, arith, length, get_or, eqb, le-leb, lt-leb}
use Rattle.wire.specs.Number.{digits, number, Bytes}
use Rattle.wire.specs.Field.{to, bytes_at, u8_at, u32_at, text_at, got, got_text, got_to, Parsed}
use Rattle.wire.proofs.Stands.{Here, skip, go8, go32, bytes_here}
use Rattle.amf0.specs.Standard.{UTF-8}
use Rattle.amf0_theorems.specs.Refusal.{Field, InText}
use Rattle.amf0_theorems.specs.Refusal.Field.{some}
use Rattle.packet.specs.declared.head.Entry.{Entry}
use Rattle.packet.specs.Head.{bit_of, entry, header_at, message_at, head_at, Head}
use Rattle.packet.specs.Packet as packet
use Rattle.packet.specs.Packet.{Label, IsHeader, IsMessage}
use Rattle.packet_theorems.specs.Refusal.{LeadsLabel}
use Rattle.packet_theorems.proofs.Heads.{flag_head}
use Rattle.packet_theorems.proofs.Parts.{Part, goes, halts, ◌then◌, then_then, Follows, Plain, plain, Both, LeadsBoth, in_turn, turned, Some, numberless, Only, Number, number_by, number_follows, Texted, text_by, text_follows}
use Rattle.wire.specs.Answer.{denied}
use Rattle.wire.specs.declared.cursor.Span.{Span}

-- ---- the label of an entry

-- the bytes x are the label of an entry of a kind
pub record Labelled (Kind : Label → Type 0) (x : List ℕ) : Type 0 where
  pub label : Label
  pub kind : Kind label
  pub head : packet.Head label x

-- a byte is a number in one byte
digit : (b : ℕ) → b < 256 → digits 1 b ≡ b ∷ []
digit b l = ap (λ n. n ∷ []) (omega arith)

-- the bytes of a flag are one number
flag_parts : {s r : List ℕ} {at : ℕ} (k x : List ℕ) (b : ℕ) → Bytes s → UTF-8 k x → Here s at (x ++ (b ∷ [])) r
    → Both (Plain Texted) (λ v. Plain (Some (Number 1))) 0 (x ++ (b ∷ []))
flag_parts k x b bs u h =
    let l : b < 256 = (bytes_here (skip x (b ∷ []) h) bs).0 in
    let n : Number 1 b (digits 1 b) = Number.is l in
    Both.both (plain (record { letters = k; utf_8 = u })) (plain (record { number = b; stands = rw (digit b l) at n }))

-- a header's label is a name and a flag
header_parts : {s r : List ℕ} {at : ℕ} (l : Label) (x : List ℕ) → Bytes s → IsHeader l → packet.Head l x → Here s at x r
    → Both (Plain Texted) (λ v. Plain (Some (Number 1))) 0 x
header_parts l x bs k (packet.Head.header_false {name} {x = y} u) h = flag_parts name y 0 bs u h
header_parts l x bs k (packet.Head.header_true {name} {x = y} u) h = flag_parts name y 1 bs u h
header_parts l x bs k (packet.Head.header_above {name} {x = y} b m n u) h = flag_parts name y b bs u h
header_parts l x bs k (packet.Head.message t o) h = absurd k

-- a message's label is two texts
message_parts : (l : Label) (x : List ℕ) → IsMessage l → packet.Head l x → Both (Plain Texted) (λ v. Plain Texted) 0 x
message_parts l x k (packet.Head.header_false u) = absurd k
message_parts l x k (packet.Head.header_true u) = absurd k
message_parts l x k (packet.Head.header_above b m n u) = absurd k
message_parts l x k (packet.Head.message {target} {response} t o) =
    Both.both (plain (record { letters = target; utf_8 = t })) (plain (record { letters = response; utf_8 = o }))

-- going over a header's label
abbrev header_by : List ℕ → ℕ → Part
header_by s at = text_by s at then λ v q. number_by 1 s q then λ b e. goes 0 e

-- going over a message's label
abbrev message_by : List ℕ → ℕ → Part
message_by s at = text_by s at then λ v q. text_by s q

header_follows : (s : List ℕ) → Bytes s → (at : ℕ) → Follows (Plain (Labelled IsHeader)) (λ r. LeadsLabel IsHeader) s at (header_by s at)
header_follows s bs at =
    turned (λ v x r h. to_label v x) from_label (λ r x f e. to_leads r x f) (λ r x f e. from_leads r x f)
    (in_turn (λ v q. number_by 1 s q then λ b e. goes 0 e) (text_by s at) (text_follows s bs at) λ v x r t h.
    numberless (number_by 1 s (at + length x)) (number_follows 1 s bs (at + length x) (omega arith)))
  where
    to_label : (v : ℕ) (x : List ℕ) → Both (Plain Texted) (λ v. Plain (Some (Number 1))) v x → Plain (Labelled IsHeader) v x
    to_label v x (Both.both {x = y} (Plain.plain t) (Plain.plain n)) = plain (go n.number n.stands)
      where
        go : (b : ℕ) {z : List ℕ} → Number 1 b z → Labelled IsHeader (y ++ z)
        go b (Number.is l) = rw (digit b l) (record { label = Label.header t.letters (eqb (bit_of b) 1); kind = tt; head = flag_head b l t.utf_8 })

    from_label : (v : ℕ) (x r : List ℕ) → Here s at x r → Plain (Labelled IsHeader) v x → Both (Plain Texted) (λ v. Plain (Some (Number 1))) v x
    from_label v x r h (Plain.plain l) = header_parts l.label x bs l.kind l.head h

    to_leads : (r x : List ℕ) (f : Field) → LeadsBoth (Plain Texted) (λ r. InText 2) (λ v r. Only (some 1)) r x f → LeadsLabel IsHeader x f
    to_leads r x f (LeadsBoth.one i) = LeadsLabel.first i
    to_leads r x f (LeadsBoth.two {x = y} (Plain.plain t) Only.only) = rw (append-nil y) (LeadsLabel.flag tt t.utf_8)

    from_leads : (r x : List ℕ) (f : Field) → LeadsLabel IsHeader x f → LeadsBoth (Plain Texted) (λ r. InText 2) (λ v r. Only (some 1)) r x f
    from_leads r x f (LeadsLabel.first i) = LeadsBoth.one i
    from_leads r x f (LeadsLabel.flag {k} i u) =
        let l : LeadsBoth (Plain Texted) (λ r. InText 2) (λ v r. Only (some 1)) r (x ++ []) (some 1) =
        LeadsBoth.two (plain (record { letters = k; utf_8 = u })) Only.only
        in
        rw (append-nil x) at l
    from_leads r x f (LeadsLabel.response k u i) = absurd k

message_follows : (s : List ℕ) → Bytes s → (at : ℕ) → Follows (Plain (Labelled IsMessage)) (λ r. LeadsLabel IsMessage) s at (message_by s at)
message_follows s bs at =
    turned (λ v x r h. to_label v x) from_label (λ r x f e. to_leads r x f) (λ r x f e. from_leads r x f)
    (in_turn (λ v q. text_by s q) (text_by s at) (text_follows s bs at) λ v x r t h. text_follows s bs (at + length x))
  where
    to_label : (v : ℕ) (x : List ℕ) → Both (Plain Texted) (λ v. Plain Texted) v x → Plain (Labelled IsMessage) v x
    to_label v x (Both.both (Plain.plain t) (Plain.plain o)) =
        plain (record { label = Label.message t.letters o.letters; kind = tt; head = packet.Head.message t.utf_8 o.utf_8 })

    from_label : (v : ℕ) (x r : List ℕ) → Here s at x r → Plain (Labelled IsMessage) v x → Both (Plain Texted) (λ v. Plain Texted) v x
    from_label v x r h (Plain.plain l) = message_parts l.label x l.kind l.head

    to_leads : (r x : List ℕ) (f : Field) → LeadsBoth (Plain Texted) (λ r. InText 2) (λ v r. InText 2) r x f → LeadsLabel IsMessage x f
    to_leads r x f (LeadsBoth.one i) = LeadsLabel.first i
    to_leads r x f (LeadsBoth.two (Plain.plain t) i) = LeadsLabel.response tt t.utf_8 i

    from_leads : (r x : List ℕ) (f : Field) → LeadsLabel IsMessage x f → LeadsBoth (Plain Texted) (λ r. InText 2) (λ v r. InText 2) r x f
    from_leads r x f (LeadsLabel.first i) = LeadsBoth.one i
    from_leads r x f (LeadsLabel.flag k u) = absurd k
    from_leads r x f (LeadsLabel.response {k} i u j) = LeadsBoth.two (plain (record { letters = k; utf_8 = u })) j

-- ---- the head of an entry, as the readings have it, is its label and the length that it declares

module _ (s : List ℕ) (k : ℕ → ℕ → Part) where
  -- the length that is declared
  declared_is : (q : ℕ) (e : ℕ → ℕ → Entry) → ((l v : ℕ) → (e l v).length ≡ l)
      → got halts (got denied (u32_at s q) λ l v. got_to (e l v) (to v)) (λ e v. k e.length v) ≡ number_by 4 s q then k
  declared_is q e is =
      go32 (λ h. got halts h (λ e v. k e.length v) ≡ number_by 4 s q then k) denied s q _
      (λ i. rw (le-leb (q + 4) (length s) i, is (number (bytes_at 4 s q)) (q + 4))) (λ i. rw (lt-leb (q + 4) (length s) i))

  -- what comes behind a text
  behind_text : (at : ℕ) (h : ℕ → ℕ → ℕ → Head) (g : ℕ → Part) → ((p n q : ℕ) → got halts (h p n q) (λ e v. k e.length v) ≡ g q)
      → got halts (got_text denied (text_at 2 s at) h) (λ e v. k e.length v) ≡ text_by s at then λ v q. g q
  behind_text at h g same = go (text_at 2 s at)
    where
      go : (x : Parsed Span) → got halts (got_text denied x h) (λ e v. k e.length v) ≡ got_text halts x (λ p n q. goes 0 q) then λ v q. g q
      go (Ok x) = same x.0.place x.0.length x.1.at
      go (Err r) = refl

  -- a flag, and what comes behind it
  flag_is : (q : ℕ) (e : ℕ → ℕ → ℕ → Entry) → ((f l v : ℕ) → (e f l v).length ≡ l)
      → got halts (got denied (u8_at s q) λ f d. got denied (u32_at s d) λ l v. got_to (e f l v) (to v)) (λ e v. k e.length v)
      ≡ number_by 1 s q then (λ b d. goes 0 d) then λ v d. number_by 4 s d then k
  flag_is q e is =
      go8 (λ h. got halts h (λ e v. k e.length v) ≡ number_by 1 s q then (λ b d. goes 0 d) then λ v d. number_by 4 s d then k) denied s q _
      (λ i. rw (le-leb (q + 1) (length s) (omega arith)) (declared_is (q + 1) (e (get_or s q 0)) (is (get_or s q 0))))
      (λ i. rw (lt-leb (q + 1) (length s) (omega arith)))

  header_is : (at : ℕ) → got halts (header_at s at) (λ e v. k e.length v) ≡ header_by s at then λ v q. number_by 4 s q then k
  unfolding header_at
  header_is at =
      behind_text at _ (λ q. number_by 1 s q then (λ b d. goes 0 d) then λ v d. number_by 4 s d then k)
      (λ p n q. flag_is q (λ f l v. entry 0x31 (bit_of f) p n 0 0 v l) λ f l v. refl)
      ∙ sym (then_then (text_by s at) (λ v q. number_by 1 s q then λ b d. goes 0 d) (λ v d. number_by 4 s d then k))

  message_is : (at : ℕ) → got halts (message_at s at) (λ e v. k e.length v) ≡ message_by s at then λ v q. number_by 4 s q then k
  unfolding message_at
  message_is at =
      behind_text at _ (λ e. text_by s e then λ v d. number_by 4 s d then k)
      (λ p n e. behind_text e _ (λ d. number_by 4 s d then k) (λ q m d. declared_is d (λ l v. entry 0x32 0 p n q m v l) λ l v. refl))
      ∙ sym (then_then (text_by s at) (λ v q. text_by s q) (λ v d. number_by 4 s d then k))

-- ---- both kinds

-- the entries of a kind: how their labels are gone over, and how their heads are read
pub record Kinds (kind : ℕ) (Kind : Label → Type 0) : Type 0 where
  pub label_by : List ℕ → ℕ → Part
  pub follows : (s : List ℕ) → Bytes s → (at : ℕ) → Follows (Plain (Labelled Kind)) (λ r. LeadsLabel Kind) s at (label_by s at)
  pub head : (s : List ℕ) (k : ℕ → ℕ → Part) (at : ℕ) → got halts (head_at kind s at) (λ e v. k e.length v) ≡ label_by s at then λ v q. number_by 4 s q then k

pub headers : Kinds 0x31 IsHeader
headers = record { label_by = header_by; follows = header_follows; head = header_is }

pub messages : Kinds 0x32 IsMessage
messages = record { label_by = message_by; follows = message_follows; head = message_is }
