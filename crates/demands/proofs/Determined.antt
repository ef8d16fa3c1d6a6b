-- The contract of each public call asks nothing of its caller and determines its outcome: any two outcomes that it permits are the same, what the call
-- returns and every byte of all that is lent to it. A contract that is weakened fails here, and so does one that begins to ask.
use Rattle.std.specs.Prelude.{◌≡◌}
use Rattle.wire.proofs.Kit.{ℕ, refl, sym, ap, ◌∙◌, List, length, Dens, In}
use contract.Lifetimes.{Lfts}
use borrow.Fn.Kinds.{ParamKind, ResultKind, Out}
use Rattle.image.specs.Due.{Ran}
use Rattle.image.specs.Out.{Poured}
use Rattle.wire.proofs.text as text
use Rattle.image.proofs.taking as taking
use Rattle.image.proofs.building as building
use Rattle.amf0.specs.Survey.{Told}
use Rattle.amf0.proofs.read as value_read
use Rattle.amf0.proofs.survey as survey
use Rattle.amf0.proofs.write as value_write
use Rattle.lso.proofs.read as file_read
use Rattle.lso.proofs.write as file_write
use Rattle.packet.proofs.read as packet_read
use Rattle.packet.proofs.write as packet_write
use Rattle.packet.proofs.entry as entry
use Rattle.packet.proofs.row as row
use Rattle.packet.proofs.walk as walk
use Rattle.index.proofs.make as make
use Rattle.index.proofs.find as finding
use Rattle.index_theorems.proofs.Determined.{index_determined}
use Rattle.riddoskam.proofs as c
use Rattle.demands.proofs.Call.{Returned, Determined, Free, Firm}

-- every public call of the library, and every function that goes out to C
pub record EveryCall : Type 0 where
  -- texts and records
  pub inside : Firm text.inside.Kinds.ps text.inside.Kinds.r text.inside.Reads.Asked text.inside.Reads.Post
  pub part : Free text.part.Kinds.ps text.part.Reads.Asked
  -- the slice that `part` returns, by its address and its bytes (the kit's name for it is free, and no program sees it)
  pub part_text : (κs : Lfts 1) (a : Dens κs text.part.Kinds.ps) (o p : Returned text.part.Kinds.ps text.part.Kinds.r text.part.Reads.Post κs a)
      → (o.result.ref_ptr ≡ p.result.ref_ptr) × (o.result.now ≡ p.result.now)
  pub record_at : Firm taking.record_at.Kinds.ps taking.record_at.Kinds.r taking.record_at.Reads.Asked taking.record_at.Reads.Post
  pub record_of : Firm building.record_of.Kinds.ps building.record_of.Kinds.r building.record_of.Reads.Asked building.record_of.Reads.Post
  pub put_numbers : Firm building.put_numbers.Kinds.ps building.put_numbers.Kinds.r building.put_numbers.Reads.Asked building.put_numbers.Reads.Post
  -- values
  pub parse_single_element : Firm value_read.parse_single_element.Kinds.ps value_read.parse_single_element.Kinds.r
      value_read.parse_single_element.Reads.Asked value_read.parse_single_element.Reads.Post
  pub parse_value : Firm value_read.parse_value.Kinds.ps value_read.parse_value.Kinds.r value_read.parse_value.Reads.Asked value_read.parse_value.Reads.Post
  pub measure : Firm value_read.measure.Kinds.ps value_read.measure.Kinds.r value_read.measure.Reads.Asked value_read.measure.Reads.Post
  pub survey_value : Firm survey.survey_value.Kinds.ps survey.survey_value.Kinds.r survey.survey_value.Reads.Asked survey.survey_value.Reads.Post
  pub write_value : Firm value_write.write_value.Kinds.ps value_write.write_value.Kinds.r value_write.write_value.Reads.Asked value_write.write_value.Reads.Post
  pub pour_value : Firm value_write.pour_value.Kinds.ps value_write.pour_value.Kinds.r value_write.pour_value.Reads.Asked value_write.pour_value.Reads.Post
  pub value_at : Firm value_write.value_at.Kinds.ps value_write.value_at.Kinds.r value_write.value_at.Reads.Asked value_write.value_at.Reads.Post
  -- files
  pub lso_parse : Firm file_read.parse.Kinds.ps file_read.parse.Kinds.r file_read.parse.Reads.Asked file_read.parse.Reads.Post
  pub lso_parse_incomplete : Firm file_read.parse_incomplete.Kinds.ps file_read.parse_incomplete.Kinds.r
      file_read.parse_incomplete.Reads.Asked file_read.parse_incomplete.Reads.Post
  pub lso_write_to_bytes : Firm file_write.write_to_bytes.Kinds.ps file_write.write_to_bytes.Kinds.r
      file_write.write_to_bytes.Reads.Asked file_write.write_to_bytes.Reads.Post
  -- packets
  pub packet_parse : Firm packet_read.parse.Kinds.ps packet_read.parse.Kinds.r packet_read.parse.Reads.Asked packet_read.parse.Reads.Post
  pub packet_parse_incomplete : Firm packet_read.parse_incomplete.Kinds.ps packet_read.parse_incomplete.Kinds.r
      packet_read.parse_incomplete.Reads.Asked packet_read.parse_incomplete.Reads.Post
  pub packet_write_to_bytes : Firm packet_write.write_to_bytes.Kinds.ps packet_write.write_to_bytes.Kinds.r
      packet_write.write_to_bytes.Reads.Asked packet_write.write_to_bytes.Reads.Post
  pub entry_at : Firm walk.entry_at.Kinds.ps walk.entry_at.Kinds.r walk.entry_at.Reads.Asked walk.entry_at.Reads.Post
  pub nth : Firm entry.nth.Kinds.ps entry.nth.Kinds.r entry.nth.Reads.Asked entry.nth.Reads.Post
  pub cut : Firm entry.cut.Kinds.ps entry.cut.Kinds.r entry.cut.Reads.Asked entry.cut.Reads.Post
  pub row_cut : Firm row.cut.Kinds.ps row.cut.Kinds.r row.cut.Reads.Asked row.cut.Reads.Post
  pub parse_entry : Firm entry.parse_entry.Kinds.ps entry.parse_entry.Kinds.r entry.parse_entry.Reads.Asked entry.parse_entry.Reads.Post
  pub parse_span : Firm entry.parse_span.Kinds.ps entry.parse_span.Kinds.r entry.parse_span.Reads.Asked entry.parse_span.Reads.Post
  -- indexes
  pub make_index : Firm make.make_index.Kinds.ps make.make_index.Kinds.r make.make_index.Reads.Asked make.make_index.Reads.Post
  pub find : Firm finding.find.Kinds.ps finding.find.Kinds.r finding.find.Reads.Asked finding.find.Reads.Post
  pub step : Firm finding.step.Kinds.ps finding.step.Kinds.r finding.step.Reads.Asked finding.step.Reads.Post
  -- the functions that go out to C
  pub riddoskam_inside : Firm c.riddoskam_inside.Kinds.ps c.riddoskam_inside.Kinds.r c.riddoskam_inside.Reads.Asked c.riddoskam_inside.Reads.Post
  pub riddoskam_part : Firm c.riddoskam_part.Kinds.ps c.riddoskam_part.Kinds.r c.riddoskam_part.Reads.Asked c.riddoskam_part.Reads.Post
  pub riddoskam_parse_single_element : Firm c.riddoskam_parse_single_element.Kinds.ps c.riddoskam_parse_single_element.Kinds.r
      c.riddoskam_parse_single_element.Reads.Asked c.riddoskam_parse_single_element.Reads.Post
  pub riddoskam_write_value : Firm c.riddoskam_write_value.Kinds.ps c.riddoskam_write_value.Kinds.r
      c.riddoskam_write_value.Reads.Asked c.riddoskam_write_value.Reads.Post
  pub riddoskam_lso_parse : Firm c.riddoskam_lso_parse.Kinds.ps c.riddoskam_lso_parse.Kinds.r c.riddoskam_lso_parse.Reads.Asked c.riddoskam_lso_parse.Reads.Post
  pub riddoskam_lso_parse_incomplete : Firm c.riddoskam_lso_parse_incomplete.Kinds.ps c.riddoskam_lso_parse_incomplete.Kinds.r
      c.riddoskam_lso_parse_incomplete.Reads.Asked c.riddoskam_lso_parse_incomplete.Reads.Post
  pub riddoskam_lso_write_to_bytes : Firm c.riddoskam_lso_write_to_bytes.Kinds.ps c.riddoskam_lso_write_to_bytes.Kinds.r
      c.riddoskam_lso_write_to_bytes.Reads.Asked c.riddoskam_lso_write_to_bytes.Reads.Post
  pub riddoskam_packet_parse : Firm c.riddoskam_packet_parse.Kinds.ps c.riddoskam_packet_parse.Kinds.r
      c.riddoskam_packet_parse.Reads.Asked c.riddoskam_packet_parse.Reads.Post
  pub riddoskam_packet_parse_incomplete : Firm c.riddoskam_packet_parse_incomplete.Kinds.ps c.riddoskam_packet_parse_incomplete.Kinds.r
      c.riddoskam_packet_parse_incomplete.Reads.Asked c.riddoskam_packet_parse_incomplete.Reads.Post
  pub riddoskam_packet_write_to_bytes : Firm c.riddoskam_packet_write_to_bytes.Kinds.ps c.riddoskam_packet_write_to_bytes.Kinds.r
      c.riddoskam_packet_write_to_bytes.Reads.Asked c.riddoskam_packet_write_to_bytes.Reads.Post
  pub riddoskam_packet_nth : Firm c.riddoskam_packet_nth.Kinds.ps c.riddoskam_packet_nth.Kinds.r
      c.riddoskam_packet_nth.Reads.Asked c.riddoskam_packet_nth.Reads.Post
  pub riddoskam_packet_cut : Firm c.riddoskam_packet_cut.Kinds.ps c.riddoskam_packet_cut.Kinds.r
      c.riddoskam_packet_cut.Reads.Asked c.riddoskam_packet_cut.Reads.Post
  pub riddoskam_packet_parse_entry : Firm c.riddoskam_packet_parse_entry.Kinds.ps c.riddoskam_packet_parse_entry.Kinds.r
      c.riddoskam_packet_parse_entry.Reads.Asked c.riddoskam_packet_parse_entry.Reads.Post
  pub riddoskam_packet_parse_span : Firm c.riddoskam_packet_parse_span.Kinds.ps c.riddoskam_packet_parse_span.Kinds.r
      c.riddoskam_packet_parse_span.Reads.Asked c.riddoskam_packet_parse_span.Reads.Post
  pub riddoskam_record_at : Firm c.riddoskam_record_at.Kinds.ps c.riddoskam_record_at.Kinds.r c.riddoskam_record_at.Reads.Asked c.riddoskam_record_at.Reads.Post
  pub riddoskam_put : Firm c.riddoskam_put.Kinds.ps c.riddoskam_put.Kinds.r c.riddoskam_put.Reads.Asked c.riddoskam_put.Reads.Post
  pub riddoskam_index : Firm c.riddoskam_index.Kinds.ps c.riddoskam_index.Kinds.r c.riddoskam_index.Reads.Asked c.riddoskam_index.Reads.Post
  pub riddoskam_find : Firm c.riddoskam_find.Kinds.ps c.riddoskam_find.Kinds.r c.riddoskam_find.Reads.Asked c.riddoskam_find.Reads.Post
  pub riddoskam_step : Firm c.riddoskam_step.Kinds.ps c.riddoskam_step.Kinds.r c.riddoskam_step.Reads.Asked c.riddoskam_step.Reads.Post

-- ---- how two outcomes are the same

-- two that are equal to one are equal
same : {A : Type 0} {x y z : A} → x ≡ z → y ≡ z → x ≡ y
same e f = e ∙ sym f

-- A contract that says what is returned, where nothing is lent,
plain : {A L : Type 0} {r q a : A} {l : L} → r ≡ a → q ≡ a → (r ≡ q) × (l ≡ l)
plain e f = (same e f, refl)

-- and what is left in one, two or three places that are lent, which stand in the parameters as `all` has them.
module _ {A L : Type 0} {r q a : A} {B : Type 0} {x y b : B} where
  one_left : (all : B → L) → (r ≡ a) × (x ≡ b) → (q ≡ a) × (y ≡ b) → (r ≡ q) × (all x ≡ all y)
  one_left all e f = (same e.0 f.0, ap all (same e.1 f.1))

  module _ {C : Type 0} {u v c : C} where
    two_left : (all : B → C → L) → (r ≡ a) × ((x ≡ b) × (u ≡ c)) → (q ≡ a) × ((y ≡ b) × (v ≡ c)) → (r ≡ q) × (all x u ≡ all y v)
    two_left all e f =
        let g = same e.1.0 f.1.0 in
        let h = same e.1.1 f.1.1 in
        (same e.0 f.0, λ i. all (g i) (h i))

    module _ {D : Type 0} {m n d : D} where
      three_left : (all : B → C → D → L) → (r ≡ a) × ((x ≡ b) × ((u ≡ c) × (m ≡ d))) → (q ≡ a) × ((y ≡ b) × ((v ≡ c) × (n ≡ d)))
          → (r ≡ q) × (all x u m ≡ all y v n)
      three_left all e f =
          let g = same e.1.0 f.1.0 in
          let h = same e.1.1.0 f.1.1.0 in
          let k = same e.1.1.1 f.1.1.1 in
          (same e.0 f.0, λ i. all (g i) (h i) (k i))

-- a contract that asks nothing, and whose outcomes are the same
firm : {n : ℕ} {ps : List (ParamKind n)} {rk : ResultKind n} {Asked : In n ps} {Post : Out n ps rk} → Free ps Asked → Determined ps rk Post → Firm ps rk Asked Post
firm free one = record { free = free; one = one }

pub every_call : EveryCall
every_call =
    record {
      inside = firm (λ κs a. tt) λ κs a o p. plain o.ensures p.ensures;
      part = λ κs a. tt;
      part_text = λ κs a o p. (same o.ensures.1 p.ensures.1, same o.ensures.0 p.ensures.0);
      record_at = firm (λ κs a. tt) λ κs a o p. plain o.ensures p.ensures;
      record_of = firm (λ κs a. tt) λ κs a o p. plain o.ensures p.ensures;
      put_numbers = firm (λ κs a. tt) λ κs a o p. one_left (λ x. (x, (tt, (tt, tt)))) o.ensures p.ensures;
      parse_single_element = firm (λ κs a. tt) λ κs a o p. one_left (λ x. (tt, (x, tt))) o.ensures p.ensures;
      parse_value = firm (λ κs a. tt) λ κs a o p.
          let e = same o.ensures.0 p.ensures.0 in
          (ap (λ (x : Ran). x.step) e, λ i. ((e i).image, (tt, (tt, (tt, (tt, tt))))));
      measure = firm (λ κs a. tt) λ κs a o p. plain o.ensures.0 p.ensures.0;
      survey_value = firm (λ κs a. tt) λ κs a o p.
          let e = same o.ensures.0 p.ensures.0 in
          (ap (λ (x : Told). x.ended) e, λ i. ((e i).counts, (tt, (tt, (tt, tt)))));
      write_value = firm (λ κs a. tt) λ κs a o p. one_left (λ x. (tt, (tt, (x, tt)))) o.ensures p.ensures;
      pour_value = firm (λ κs a. tt) λ κs a o p.
          let e = same o.ensures.0 p.ensures.0 in
          (ap (λ (x : Poured). x.step) e, λ i. ((e i).out, (tt, (tt, (tt, (tt, tt))))));
      value_at = firm (λ κs a. tt) λ κs a o p. plain o.ensures p.ensures;
      lso_parse = firm (λ κs a. tt) λ κs a o p. one_left (λ x. (tt, (x, tt))) o.ensures p.ensures;
      lso_parse_incomplete = firm (λ κs a. tt) λ κs a o p. one_left (λ x. (tt, (x, tt))) o.ensures p.ensures;
      lso_write_to_bytes = firm (λ κs a. tt) λ κs a o p. one_left (λ x. (tt, (tt, (x, tt)))) o.ensures p.ensures;
      packet_parse = firm (λ κs a. tt) λ κs a o p. one_left (λ x. (tt, (x, tt))) o.ensures p.ensures;
      packet_parse_incomplete = firm (λ κs a. tt) λ κs a o p. one_left (λ x. (tt, (x, tt))) o.ensures p.ensures;
      packet_write_to_bytes = firm (λ κs a. tt) λ κs a o p. one_left (λ x. (tt, (tt, (tt, (x, tt))))) o.ensures p.ensures;
      entry_at = firm (λ κs a. tt) λ κs a o p. plain o.ensures p.ensures;
      nth = firm (λ κs a. tt) λ κs a o p. plain o.ensures p.ensures;
      cut = firm (λ κs a. tt) λ κs a o p. one_left (λ x. (tt, (x, tt))) o.ensures p.ensures;
      row_cut = firm (λ κs a. tt) λ κs a o p. one_left (λ x. (tt, (x, tt))) o.ensures p.ensures;
      parse_entry = firm (λ κs a. tt) λ κs a o p. one_left (λ x. (tt, (tt, (x, tt)))) o.ensures p.ensures;
      parse_span = firm (λ κs a. tt) λ κs a o p. one_left (λ x. (tt, (tt, (tt, (x, tt))))) o.ensures p.ensures;
      make_index = firm (λ κs a. tt) λ κs a o p.
          let e = index_determined a.0.now a.1.0.now (length a.1.1.0.now) _ _ (o.ensures.1, o.kept.1.1.0)
          (p.ensures.1, p.kept.1.1.0) in
          (same o.ensures.0 p.ensures.0, λ i. (tt, (tt, (e i, tt))));
      find = firm (λ κs a. tt) λ κs a o p. plain o.ensures p.ensures;
      step = firm (λ κs a. tt) λ κs a o p. plain o.ensures p.ensures;
      riddoskam_inside = firm (λ κs a. tt) λ κs a o p. plain o.ensures p.ensures;
      riddoskam_part = firm (λ κs a. tt) λ κs a o p.
          one_left (λ x. (tt, (tt, (tt, (x, tt))))) (o.ensures.0, o.ensures.1.0) (p.ensures.0, p.ensures.1.0);
      riddoskam_parse_single_element = firm (λ κs a. tt) λ κs a o p. three_left (λ x y z. (tt, (z, (x, (y, tt))))) o.ensures p.ensures;
      riddoskam_write_value = firm (λ κs a. tt) λ κs a o p. two_left (λ x y. (tt, (tt, (y, (x, tt))))) o.ensures p.ensures;
      riddoskam_lso_parse = firm (λ κs a. tt) λ κs a o p. three_left (λ x y z. (tt, (z, (x, (y, tt))))) o.ensures p.ensures;
      riddoskam_lso_parse_incomplete = firm (λ κs a. tt) λ κs a o p. three_left (λ x y z. (tt, (z, (x, (y, tt))))) o.ensures p.ensures;
      riddoskam_lso_write_to_bytes = firm (λ κs a. tt) λ κs a o p. two_left (λ x y. (tt, (tt, (y, (x, tt))))) o.ensures p.ensures;
      riddoskam_packet_parse = firm (λ κs a. tt) λ κs a o p. three_left (λ x y z. (tt, (z, (x, (y, tt))))) o.ensures p.ensures;
      riddoskam_packet_parse_incomplete = firm (λ κs a. tt) λ κs a o p. three_left (λ x y z. (tt, (z, (x, (y, tt))))) o.ensures p.ensures;
      riddoskam_packet_write_to_bytes = firm (λ κs a. tt) λ κs a o p. two_left (λ x y. (tt, (tt, (tt, (y, (x, tt)))))) o.ensures p.ensures;
      riddoskam_packet_nth = firm (λ κs a. tt) λ κs a o p. one_left (λ x. (tt, (tt, (x, tt)))) o.ensures p.ensures;
      riddoskam_packet_cut = firm (λ κs a. tt) λ κs a o p. three_left (λ x y z. (tt, (z, (x, (y, tt))))) o.ensures p.ensures;
      riddoskam_packet_parse_entry = firm (λ κs a. tt) λ κs a o p. three_left (λ x y z. (tt, (tt, (z, (x, (y, tt)))))) o.ensures p.ensures;
      riddoskam_packet_parse_span = firm (λ κs a. tt) λ κs a o p. three_left (λ x y z. (tt, (tt, (tt, (z, (x, (y, tt))))))) o.ensures p.ensures;
      riddoskam_record_at = firm (λ κs a. tt) λ κs a o p. two_left (λ x y. (tt, (tt, (x, (y, tt))))) o.ensures p.ensures;
      riddoskam_put = firm (λ κs a. tt) λ κs a o p. two_left (λ x y. (y, (x, (tt, tt)))) o.ensures p.ensures;
      riddoskam_index = firm (λ κs a. tt) λ κs a o p.
          let e = index_determined a.0.now a.1.0.now (length a.1.1.0.now) _ _ (o.ensures.1.1, o.kept.1.1.0)
          (p.ensures.1.1, p.kept.1.1.0) in
          (same o.ensures.0 p.ensures.0, λ i. (tt, (tt, (e i, ((same o.ensures.1.0 p.ensures.1.0) i, tt)))));
      riddoskam_find = firm (λ κs a. tt) λ κs a o p. one_left (λ x. (tt, (tt, (tt, (tt, (x, tt)))))) o.ensures p.ensures;
      riddoskam_step = firm (λ κs a. tt) λ κs a o p. one_left (λ x. (tt, (tt, (tt, (tt, (tt, (x, tt))))))) o.ensures p.ensures;
    }
