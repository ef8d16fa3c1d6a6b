-- What is seen of a value, counter by counter.
use Rattle.std.specs.Prelude.{◌-◌, ◌<◌, ◌≡◌}
use Rattle.wire.proofs.Kit.{ℕ, sym, ◌∙◌, arith, add-zero, List, get_or, drop}
use Rattle.std.proofs.Common.{get_or-drop, get_or-take}
use Rattle.wire.specs.Field.{bytes_at}
use Rattle.wire.proofs.Stands.{length_bytes}
use Rattle.amf0.specs.Survey.{noted}
use Rattle.amf0.proofs.survey.note.Goals as goal

first : (n : ℕ) (s : List ℕ) (p : ℕ) → 0 < n → get_or (bytes_at n s p) 0 0 ≡ get_or s p 0
first n s p h = get_or-take n (drop p s) 0 0 h ∙ (get_or-drop p s 0 0 ∙ rw (add-zero p))

pub returns : goal.returns
unfolding noted
returns c =
    let a = c.args in
    let l = length_bytes (a.q - a.p) (a.s.now) a.p (omega arith) in
    let f = first (a.q - a.p) (a.s.now) a.p (omega arith) in
    let e = sym c.requires.3 in
    c.deepen.ensures
    ∙ rw (c.count_if-2.ensures, c.uneven-odd.ensures, c.count_if.ensures, c.shortens-short.ensures, c.count_one.ensures, c.counter-i.ensures.0, l, f, e)
