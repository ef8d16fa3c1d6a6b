-- What a tree is written as encodes it, and no encoding of it is shorter.
use Rattle.std.specs.Prelude.{◌+◌, ◌/◌, ◌%◌, ◌^◌, ◌≤◌, ◌<◌, ◌≡◌, ◌∷◌, ◌++◌}
use Rattle.wire.proofs.Kit.{ℕ, zero, suc, refl, List, [], append_assoc, append-nil, true, le_refl, pow-suc, arith}
use Rattle.wire.proofs.Kit.{length, length-append, ltb, le-leb, ltb-true, ltb-false}
use Rattle.wire.specs.Number.{digits}
use Rattle.wire.specs.Bytes.{places, decimal}
use Rattle.wire.specs.Utf8.{utf8, ends}
use Rattle.wire.specs.Limit as limit
use Rattle.wire.proofs.Laws.{picked}
use Rattle.image.specs.declared.record.Record.{Record}
use Rattle.amf0.specs.Standard.{Sort, Content, content, Tree, UTF-8, Encodes}
use Rattle.amf0.specs.Standard.UTF-8.{short}
use Rattle.amf0.specs.Shown.{laid, Right}
use Rattle.amf0.specs.Written.{write_item, write, Lead, lead_of, Spells}
use Rattle.amf0.specs.Written.Lead.{keyed, keyless}
use Rattle.amf0_theorems.proofs.Marked.{marked}
use Rattle.amf0_theorems.proofs.Says.{says, Itemed, Keyed}
use Rattle.amf0_theorems.proofs.Puts.{laid_length, laid_size, right_left, right_right, one}

-- ---- numbers in decimal

ascii : (b : ℕ) (x : List ℕ) → b ≤ 127 → utf8 x ≡ true → utf8 (b ∷ x) ≡ true
unfolding ends
ascii b x h u = rw (le-leb b 127 h, le-leb 0 b (omega arith)) u

places_utf8 : (w n : ℕ) (x : List ℕ) → utf8 x ≡ true → utf8 (places w n ++ x) ≡ true
places_utf8 zero n x u = u
places_utf8 (suc w) n x u =
    picked (λ y. utf8 (y ++ x) ≡ true) (ltb n 10) _ _
    (λ h. ascii (0x30 + n) x (omega (arith, ltb-true n 10 h)) u)
    (λ h. rw (append_assoc (places w (n / 10)) ((0x30 + n % 10) ∷ []) x) (places_utf8 w (n / 10) ((0x30 + n % 10) ∷ x) (ascii (0x30 + n % 10) x (omega arith) u)))

places_long : (m w n : ℕ) → n < 10 ^ m → length (places w n) ≤ suc m
places_long m zero n h = omega arith
places_long zero (suc w) n h = picked (λ y. length y ≤ 1) (ltb n 10) _ _ (λ t. le_refl _) (λ t. absurd (omega (arith, ltb-false n 10 t)))
places_long (suc m) (suc w) n h =
    picked (λ y. length y ≤ suc (suc m)) (ltb n 10) _ _ (λ t. omega arith)
    (λ t.
    let l : n / 10 < 10 ^ m = omega (arith, pow-suc 10 m) in
    omega (arith, places_long m w (n / 10) l, length-append (places w (n / 10)) ((0x30 + n % 10) ∷ [])))

-- the key of a value without one is a short text
decimal_key : (n : ℕ) → n < limit.image → UTF-8 (decimal n) (digits 2 (length (decimal n)) ++ decimal n)
unfolding ends
decimal_key n h =
    short (decimal n) (omega (arith, places_long 7 (suc n) n (omega arith)))
    (rw (append-nil (decimal n)) at (places_utf8 (suc n) n [] refl))

-- ---- the encoding

-- the number of the next value without a key
abbrev next : Lead → ℕ
next keyed = 0
next (keyless n) = n

-- they are numbered from 0 on
lead_first : (c : Content) → next (lead_of c) ≡ 0
lead_first Content.nothing = refl
lead_first Content.named = refl
lead_first Content.associative = refl
lead_first (Content.ordered n) = refl

pub encoded : {s : List ℕ} {l : Lead} {k : Sort} {t : Tree k} {rs : List Record} → Spells s l k t rs → Right s rs → next l + length (laid rs) ≤ limit.image
    → Encodes k t (write t)
encoded {s} (Spells.node {r} {i} {rs} e c) g h =
    let w : Itemed s r i = rw e at (says s r g.0 g.1) in
    Encodes.node w.grammar (encoded c g.2 (omega (arith, lead_first (content i), laid_size r rs)))
encoded (Spells.none e) g h = Encodes.end
encoded {s} (Spells.property {r} {k} {rs} {qs} e c d) g h =
    let w : Keyed s r k = rw e at (says s r g.0 g.1) in
    let l = laid_length rs qs in
    let o = laid_size r (rs ++ qs) in
    Encodes.property w.grammar (encoded c (right_left s rs qs g.2) (omega arith)) (encoded d (right_right s rs qs g.2) (omega arith))
encoded Spells.nil g h = Encodes.nil
encoded {s} (Spells.cons {rs} {qs} c d) g h =
    let l = laid_length rs qs in
    Encodes.cons (encoded c (right_left s rs qs g) (omega arith)) (encoded d (right_right s rs qs g) (omega arith))
encoded {s} (Spells.dense {n} {rs} {qs} c d) g h =
    let l = laid_length rs qs in
    let o = one c in
    Encodes.property (decimal_key n (omega arith)) (encoded c (right_left s rs qs g) (omega arith)) (encoded d (right_right s rs qs g) (omega arith))
encoded (Spells.pairs c) g h = encoded c g (omega arith)

-- ---- none is shorter

pub least : {k : Sort} {t : Tree k} {x : List ℕ} → Encodes k t x → length (write t) ≤ length x
least (Encodes.node {i} {t} {x} {y} row e) = omega (arith, (marked row).least, least e, length-append (write_item i) (write t), length-append x y)
least Encodes.end = le_refl _
least (Encodes.departure_named_end (short k h u) l) = omega (arith, length-append k (9 ∷ []))
least (Encodes.property {v} {ps} {y} {z} (short k h u) e f) =
    omega (arith, least e, least f, length-append k (write v ++ write ps), length-append (write v) (write ps), length-append k (y ++ z), length-append y z)
least Encodes.nil = le_refl _
least (Encodes.cons {v} {vs} {x} {y} e f) = omega (arith, least e, least f, length-append (write v) (write vs), length-append x y)
