-- Where the reading of a value stops, a field refuses the input.
use Rattle.std.specs.Prelude.{◌+◌, ◌≤◌, ◌<◌, ◌≡◌, ◌≢◌, ◌∷◌, ◌++◌, Ok, Err, Option}
use Rattle.wire.proofs.Kit.{ℕ, zero, suc, refl, ap, ◌∙◌, List, [], false, arith, length, drop, get_or, length-append}
use Rattle.wire.proofs.Kit.{length-drop, leb, eqb, leb-true, leb-false, eqb-true, eqb-false}
use Rattle.wire.specs.Number.{digits, number, Bytes}
use Rattle.wire.specs.Field.{bytes_at, text_at, got_text}
use Rattle.wire.proofs.Laws.{picked, length_digits}
use Rattle.wire.proofs.Stands.{Here, join, after, byte_stood, number_stood, go8, go16, go32, go64}
use Rattle.image.specs.declared.record.Record.{Record}
use Rattle.image.specs.Due.{Due, Fact, stop, seen, due, Ends}
use Rattle.amf0.specs.declared.read.Follow.{Follow}
use Rattle.amf0.specs.declared.read.Follow.TheVariants.{Nothing, Pairs, Values}
use Rattle.amf0.specs.Marker.{markers, marker_of}
use Rattle.amf0.specs.Fields.{fields_at, gives, got_fields, shut, behind, Fields}
use Rattle.amf0.specs.Reading.{items, pair, pairs, follow, own_at, value}
use Rattle.amf0.specs.Standard.{Sort, many, Content, content, sort_of, UTF-8}
use Rattle.amf0.specs.Standard.UTF-8.{short}
use Rattle.amf0.proofs.Rows.{item_at, next_of, IsRead, item_ends, Each, ◌▸◌, each_marker}
use Rattle.amf0_theorems.specs.Refusal.{Field, Bars, Refuses, InText, Own, Leads, Refused, RefusedValue}
use Rattle.amf0_theorems.specs.Refusal.Bars.{movie_clip, object_end, record_set}
use Rattle.amf0_theorems.proofs.Refused.{Told, told_map, told_bind, left_over, refuse, onward, reworded, text_case, shut_number}
use Rattle.amf0_theorems.proofs.Complete.{part, follow_next, value_item}
use Rattle.amf0_theorems.proofs.Sound as soundness
use Rattle.amf0_theorems.proofs.Sound.{Found}
use Rattle.wire.specs.Answer.{denied}
use Rattle.amf0.specs.declared.type_marker.TypeMarker.{TypeMarker}

-- the refusals of a row of a sort, from a place on
abbrev pub RefusedPart : ℕ → Sort → List ℕ → ℕ → ℕ → ℕ → Type 0
RefusedPart left k s at a p = Refused (λ r x f. Leads r left k x f) s at a p

-- how many bytes at least what follows takes
abbrev needs : Follow → ℕ
needs Nothing = 0
needs Pairs = 0
needs (Values n) = n

-- each value that follows takes a byte
next_needs : (c : Content) → needs (next_of c) ≡ many (sort_of c)
next_needs Content.nothing = refl
next_needs Content.named = refl
next_needs Content.associative = refl
next_needs (Content.ordered n) = refl

-- what comes of a marker and its fields: what follows has room in the input, or one of them refuses it
abbrev ToldFields : ℕ → List ℕ → ℕ → Fields → Type 0
ToldFields left s at (Ok x) = x.2.at + needs x.1 ≤ length s
ToldFields left s at (Err r) = RefusedValue (suc left) s at r.answer r.place

-- nothing is left where a marker is due
no_marker : (left : ℕ) (s : List ℕ) (at : ℕ) → at ≤ length s → length s ≤ at → RefusedValue left s at 2 at
no_marker left s at l i = refuse {x = []} (record { same = refl }) (omega arith) Leads.marker (Refuses.short (omega (arith, length-drop at s)))

module _ (left : ℕ) (s : List ℕ) (bs : Bytes s) (at : ℕ) (l : at < length s) where
  -- the fields behind a marker that stands there
  abbrev Entry : ℕ → Option TypeMarker → Type 0
  Entry m t = (r : List ℕ) → Here s at (m ∷ []) r → ToldFields left s at (behind s at (at + 1) t)

  -- the first field behind a marker is not whole
  short_told : {m w : ℕ} {r : List ℕ} → Own (m ∷ []) (Field.some w) → Here s at (m ∷ []) r → length s < at + 1 + w → RefusedValue (suc left) s at 2 (at + 1)
  short_told o h i = refuse h refl (Leads.own o) (Refuses.short (omega (arith, left_over h (omega arith))))

  -- a marker that marks no value
  bar_told : {m : ℕ} {r : List ℕ} → Bars m → Here s at (m ∷ []) r → RefusedValue (suc left) s at 3 at
  bar_told b h = refuse {x = []} (record { same = h.same }) (omega arith) Leads.marker (Refuses.no_value b)

  -- a text behind a marker
  text_told : {m w : ℕ} {r : List ℕ} (q : ℕ → ℕ → Record) (f : Follow) → needs f ≡ 0 → 1 ≤ w → ((x : List ℕ) (g : Field) → InText w x g → Own (m ∷ x) g)
      → Here s at (m ∷ []) r → ToldFields left s at (got_text denied (text_at w s (at + 1)) λ p n e. gives (q p n) f e)
  text_told {w} q f z one o h =
      text_case (ToldFields left s at) denied s bs (at + 1) w one _
      (λ t r g b u. omega (arith, left_over g (omega arith), length-append (digits w (length t)) t, length_digits w (length t)))
      (λ a p. onward h refl λ r x f e i. Leads.own (o x f i))

  -- the fields of each marker
  entries : Each Entry markers
  unfolding fields_at
  entries =
      (λ r h. go64 (ToldFields left s at) denied s (at + 1) _ (λ i. omega arith) (short_told Own.number h))
      ▸ (λ r h. go8 (ToldFields left s at) denied s (at + 1) _ (λ i. omega arith) (λ i. short_told Own.boolean h (omega arith)))
      ▸ (λ r h. text_told _ Nothing refl (omega arith) (λ x g. Own.string) h)
      ▸ (λ r h. omega arith)
      ▸ (λ r h. bar_told movie_clip h)
      ▸ (λ r h. omega arith)
      ▸ (λ r h. omega arith)
      ▸ (λ r h. go16 (ToldFields left s at) denied s (at + 1) _ (λ i. omega arith) (short_told Own.reference h))
      ▸ (λ r h. go32 (ToldFields left s at) denied s (at + 1) _ (λ i. omega arith) (short_told Own.ecma_array h))
      ▸ (λ r h. bar_told object_end h)
      ▸ (λ r h. go32 (ToldFields left s at) denied s (at + 1) _
      (λ i. picked (ToldFields left s at) (leb (at + 1 + 4 + number (bytes_at 4 s (at + 1))) (length s)) _ _
      (λ j. leb-true _ _ j) (λ j. few_told h i (leb-false _ _ j)))
      (λ i. refuse h refl (Leads.own Own.strict_array) (Refuses.short (omega (arith, left_over h (omega arith))))))
      ▸ (λ r h. go64 (ToldFields left s at) denied s (at + 1) _
      (λ i. go16 (ToldFields left s at) denied s (at + 1 + 8) _ (λ j. omega arith) (λ j. zone_told h i j))
      (short_told Own.date h))
      ▸ (λ r h. text_told _ Nothing refl (omega arith) (λ x g. Own.long_string) h)
      ▸ (λ r h. omega arith)
      ▸ (λ r h. bar_told record_set h)
      ▸ (λ r h. text_told _ Nothing refl (omega arith) (λ x g. Own.xml_document) h)
      ▸ (λ r h. text_told _ Pairs refl (omega arith) (λ x g. Own.typed_object) h)
      ▸ (λ r h. omega arith)
      ▸ tt
    where
      few_told : {r : List ℕ} → Here s at (0x0A ∷ []) r → at + 1 + 4 ≤ length s → length s < at + 1 + 4 + number (bytes_at 4 s (at + 1))
          → RefusedValue (suc left) s at 2 (at + 1)
      few_told {r} h i j =
          let e : drop (at + 1) s ≡ r = after h refl in
          refuse h refl (Leads.own Own.strict_array)
          (Refuses.too_few (omega (arith, left_over h (omega arith))) (rw (← e) (omega (arith, length-drop (at + 1) s))))

      zone_told : {r : List ℕ} → Here s at (0x0B ∷ []) r → at + 1 + 8 ≤ length s → length s < at + 1 + 8 + 2 → RefusedValue (suc left) s at 2 (at + 1 + 8)
      zone_told h i j =
          let d = number_stood s bs (at + 1) 8 i in
          refuse (join h refl d.here) (omega arith) (Leads.own (Own.time_zone d.bound)) (Refuses.short (omega (arith, length-drop (at + 1 + 8) s)))

-- a marker and its fields
item_told : (left : ℕ) (s : List ℕ) (at : ℕ) → Bytes s → at ≤ length s → ToldFields left s at (item_at s at)
unfolding item_at fields_at
item_told left s at bs l =
    go8 (ToldFields left s at) denied s at _
    (λ i. each_marker (Entry left s bs at i) (entries left s bs at i) (λ m j r h. omega arith) (get_or s at 0) _ (byte_stood s at i))
    (λ i. no_marker (suc left) s at l i)

module _ (s : List ℕ) (bs : Bytes s) (left : ℕ) (inner : ℕ → Due) (good : (at n : ℕ) → Ends (inner at) n → Found Sort.value left s at n)
    (inner_told : (at : ℕ) → at ≤ length s → Told (RefusedValue left s at) (inner at)) where
  -- values in a row
  items_told : (c at : ℕ) → at ≤ length s → Told (RefusedPart left (Sort.values c) s at) (items inner c at)
  unfolding items
  items_told zero at l = tt
  items_told (suc c) at l =
      told_bind (RefusedPart left (Sort.values (suc c)) s at) (inner at) (items inner c)
      (told_map (inner at) (λ a p. reworded λ r x f. Leads.first) (inner_told at l))
      (λ n e.
      let v = good at n e in
      told_map (items inner c n) (λ a p. onward v.here v.next λ r x f e d. Leads.next v.encodes v.deep d) (items_told c n (omega (arith, left_over v.here l))))

  -- what stands behind a name
  pair_told : (k r : List ℕ) (at : ℕ) (more : ℕ → Due) → at ≤ length s
      → ((q : ℕ) → at + 1 ≤ q → q ≤ length s → Told (RefusedPart left Sort.properties s q) (more q))
      → Here s at (digits 2 (length k) ++ k) r → UTF-8 k (digits 2 (length k) ++ k)
      → Told (RefusedPart left Sort.properties s at) (pair inner more s at (at + 2) (length k) (at + 2 + length k))
  unfolding pair
  pair_told k r at more l more_told h key =
      let q : ℕ = at + 2 + length k in
      let P : Due → Type 0 = Told (RefusedPart left Sort.properties s at) in
      let i : q ≤ length s = omega (arith, left_over h l) in
      go8 P stop s q _
      (λ j. picked P (eqb (get_or s q 0) 9) _ _ (λ e. tt)
      (λ e. told_bind (RefusedPart left Sort.properties s at) (inner q) more
      (told_map (inner q) (λ a p. in_value λ z d. eqb-false (get_or s q 0) 9 e (cc (byte_stood s q j).same)) (inner_told q i))
      (λ n d.
      let v = good q n d in
      told_map (more n)
      (λ a p u. onward {q = q} h (omega arith) (λ r x f e d. d) (onward v.here v.next (λ r x f e d. Leads.next_property key v.encodes v.deep d) u))
      (more_told n (omega arith) (omega (arith, left_over v.here i))))))
      (λ j. in_value (λ z d. omega (arith, ap length d, length-drop q s)) (no_marker left s q i j))
    where
      in_value : {a p : ℕ} → ((z : List ℕ) → drop (at + 2 + length k) s ≢ 9 ∷ z) → RefusedValue left s (at + 2 + length k) a p
          → RefusedPart left Sort.properties s at a p
      in_value other t = onward h (omega arith) (λ r x f e d. Leads.property key (λ z g. other z (e ∙ g)) d) t

  -- properties; the input's length bounds their number, so where the bound is reached nothing is left
  pairs_told : (fuel at : ℕ) → length s ≤ at + fuel → at ≤ length s → Told (RefusedPart left Sort.properties s at) (pairs inner s fuel at)
  unfolding pairs
  pairs_told zero at h l = refuse {x = []} (record { same = refl }) (omega arith) (Leads.name InText.size) (Refuses.short (omega (arith, length-drop at s)))
  pairs_told (suc fuel) at h l =
      text_case (Told (RefusedPart left Sort.properties s at)) stop s bs at 2 (omega arith) _
      (λ k r g b u. pair_told k r at (pairs inner s fuel) l (λ q i. pairs_told fuel q (omega arith)) g (short k b u))
      (λ a p. reworded λ r x f. Leads.name)

  -- what follows an item
  part_told : (k : Sort) (at : ℕ) → at ≤ length s → Told (RefusedPart left k s at) (part inner s (length s) k at)
  part_told Sort.value at l = inner_told at l
  part_told Sort.properties at l = pairs_told (length s) at (omega arith) l
  part_told (Sort.values c) at l = items_told c at l

  -- a value whose fields were read, or refused
  node_told : (look : ℕ → Fact) (at : ℕ) (x : Fields) → at ≤ length s → IsRead s at x → ToldFields left s at x
      → Told (RefusedValue (suc left) s at) (got_fields stop x λ r f q. seen (look q) (due r at (follow inner s f q)))
  node_told look at (Ok y) l g t =
      let i : Content = content g.what in
      let fits : y.2.at + many (sort_of i) ≤ length s = rw (← next_needs i, ← g.follows) t in
      rw (g.follows, follow_next inner s i y.2.at)
      (told_map (part inner s (length s) (sort_of i) y.2.at)
      (λ a p. onward g.here g.long λ r x f e d. Leads.inside g.grammar (rw (← e) (omega (arith, length-drop y.2.at s))) d)
      (part_told (sort_of i) y.2.at (omega arith)))
  node_told look at (Err r) l g t = t

-- a marker that is none of the three marks a value
no_bar : (m : ℕ) → eqb m 4 ≡ false → eqb m 9 ≡ false → eqb m 14 ≡ false → Bars m → ⊥
no_bar m a b c movie_clip = eqb-false 4 4 a refl
no_bar m a b c object_end = eqb-false 9 9 b refl
no_bar m a b c record_set = eqb-false 14 14 c refl

-- the marker of a value is refused where no level is left
shut_refuses : (m : ℕ) (r : List ℕ) → Refuses (Field.marker 0) (m ∷ r) (shut (marker_of m))
shut_refuses m r =
    let P : ℕ → Type 0 = Refuses (Field.marker 0) (m ∷ r) in
    rw (shut_number m)
    (picked P (eqb m 4) _ _ (λ e. Refuses.no_value (rw (eqb-true m 4 e) movie_clip)) λ a.
    picked P (eqb m 9) _ _ (λ e. Refuses.no_value (rw (eqb-true m 9 e) object_end)) λ b.
    picked P (eqb m 14) _ _ (λ e. Refuses.no_value (rw (eqb-true m 14 e) record_set)) λ c. Refuses.too_deep (no_bar m a b c))

-- where the reading of a value stops, a field refuses the input
pub value_told : (left : ℕ) (s : List ℕ) (at : ℕ) → Bytes s → at ≤ length s → Told (RefusedValue left s at) (value left s at)
unfolding value
value_told zero s at bs l =
    go8 (Told (RefusedValue 0 s at)) stop s at _
    (λ i. refuse {x = []} (record { same = (byte_stood s at i).same }) (omega arith) Leads.marker (shut_refuses (get_or s at 0) _)) (no_marker 0 s at l)
value_told (suc left) s at bs l =
    rw (value_item left s at)
    (node_told s bs left (value left s) (λ p q. soundness.sound left s p q bs) (λ q. value_told left s q bs) (own_at left s at) at (item_at s at) l (item_ends s bs at)
    (item_told left s at bs l))
