-- `lead_of` meets its contract: each answer is the form that the byte begins, or none.
use Rattle.wire.proofs.Kit.{refl, arith}
use Rattle.wire.proofs.Steps.{begins, begins_none}
use Rattle.wire.proofs.utf8.lead_of.Goals as goal

pub returns-in-0-to-127 : goal.returns-in-0-to-127
returns-in-0-to-127 c = begins _ 0 _ refl (λ s. refl) tt (omega arith) (omega arith)

pub returns-in-194-to-223 : goal.returns-in-194-to-223
returns-in-194-to-223 c = begins _ 1 _ refl (λ s. refl) tt (omega arith) (omega arith)

pub returns-in-224 : goal.returns-in-224
returns-in-224 c = begins _ 2 _ refl (λ s. refl) tt (omega arith) (omega arith)

pub returns-in-225-to-236 : goal.returns-in-225-to-236
returns-in-225-to-236 c = begins _ 3 _ refl (λ s. refl) tt (omega arith) (omega arith)

pub returns-in-237 : goal.returns-in-237
returns-in-237 c = begins _ 4 _ refl (λ s. refl) tt (omega arith) (omega arith)

pub returns-in-238-to-239 : goal.returns-in-238-to-239
returns-in-238-to-239 c = begins _ 5 _ refl (λ s. refl) tt (omega arith) (omega arith)

pub returns-in-240 : goal.returns-in-240
returns-in-240 c = begins _ 6 _ refl (λ s. refl) tt (omega arith) (omega arith)

pub returns-in-241-to-243 : goal.returns-in-241-to-243
returns-in-241-to-243 c = begins _ 7 _ refl (λ s. refl) tt (omega arith) (omega arith)

pub returns-in-244 : goal.returns-in-244
returns-in-244 c = begins _ 8 _ refl (λ s. refl) tt (omega arith) (omega arith)

pub returns-in_default : goal.returns-in_default
returns-in_default c = begins_none _ 1 0x80 0xC2 tt tt (omega arith) (omega arith)

pub returns-in_default-2 : goal.returns-in_default-2
returns-in_default-2 c = begins_none _ 9 0xF5 0x100 tt tt (omega arith) (omega arith)
