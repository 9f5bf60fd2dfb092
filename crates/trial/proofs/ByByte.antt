-- What holds of the instructions byte by byte.
use Rattle.std.proofs.Common.{◌≡◌, ℕ, zero, suc, ◌<◌, true, false, List, get_or, arith}
use Rattle.definition.specs.Bytecode.{Const}
use Rattle.definition.proofs.Basic.{contrary}
use Rattle.trial.specs.Value.{boolean, null, Infix, Prefix}
use Rattle.trial.specs.Run.{Action, push, combine, change, constant, pop, jump_not_truthy, jump, get_global, set_global, return_value, other, actions, runnable_as}
use Rattle.trial.specs.Machine.{InfixAt, PrefixAt, Produces, Runs}

-- each byte with its action
pub by_byte : (P : ℕ → Action → Type 0)
    → P 0x00 constant
    → P 0x01 (combine Infix.add)
    → P 0x02 pop
    → P 0x03 (combine Infix.sub)
    → P 0x04 (combine Infix.mul)
    → P 0x05 (combine Infix.div)
    → P 0x06 (push (boolean true))
    → P 0x07 (push (boolean false))
    → P 0x08 (combine Infix.equals)
    → P 0x09 (combine Infix.differs)
    → P 0x0A (combine Infix.greater)
    → P 0x0B (change Prefix.minus)
    → P 0x0C (change Prefix.bang)
    → P 0x0D jump_not_truthy
    → P 0x0E jump
    → P 0x0F (push null)
    → P 0x10 get_global
    → P 0x11 set_global
    → P 0x12 other
    → P 0x13 other
    → P 0x14 other
    → P 0x15 other
    → P 0x16 return_value
    → ((n : ℕ) → 22 < n → P n other) → (n : ℕ) → P n (get_or actions n other)
by_byte P p0 p1 p2 p3 p4 p5 p6 p7 p8 p9 p10 p11 p12 p13 p14 p15 p16 p17 p18 p19 p20 p21 p22 q zero = p0
by_byte P p0 p1 p2 p3 p4 p5 p6 p7 p8 p9 p10 p11 p12 p13 p14 p15 p16 p17 p18 p19 p20 p21 p22 q (suc zero) = p1
by_byte P p0 p1 p2 p3 p4 p5 p6 p7 p8 p9 p10 p11 p12 p13 p14 p15 p16 p17 p18 p19 p20 p21 p22 q (suc (suc zero)) = p2
by_byte P p0 p1 p2 p3 p4 p5 p6 p7 p8 p9 p10 p11 p12 p13 p14 p15 p16 p17 p18 p19 p20 p21 p22 q (suc (suc (suc zero))) = p3
by_byte P p0 p1 p2 p3 p4 p5 p6 p7 p8 p9 p10 p11 p12 p13 p14 p15 p16 p17 p18 p19 p20 p21 p22 q (suc (suc (suc (suc zero)))) = p4
by_byte P p0 p1 p2 p3 p4 p5 p6 p7 p8 p9 p10 p11 p12 p13 p14 p15 p16 p17 p18 p19 p20 p21 p22 q (suc (suc (suc (suc (suc zero))))) = p5
by_byte P p0 p1 p2 p3 p4 p5 p6 p7 p8 p9 p10 p11 p12 p13 p14 p15 p16 p17 p18 p19 p20 p21 p22 q (suc (suc (suc (suc (suc (suc zero)))))) = p6
by_byte P p0 p1 p2 p3 p4 p5 p6 p7 p8 p9 p10 p11 p12 p13 p14 p15 p16 p17 p18 p19 p20 p21 p22 q (suc (suc (suc (suc (suc (suc (suc zero))))))) = p7
by_byte P p0 p1 p2 p3 p4 p5 p6 p7 p8 p9 p10 p11 p12 p13 p14 p15 p16 p17 p18 p19 p20 p21 p22 q (suc (suc (suc (suc (suc (suc (suc (suc zero)))))))) = p8
by_byte P p0 p1 p2 p3 p4 p5 p6 p7 p8 p9 p10 p11 p12 p13 p14 p15 p16 p17 p18 p19 p20 p21 p22 q (suc (suc (suc (suc (suc (suc (suc (suc (suc zero))))))))) = p9
by_byte P p0 p1 p2 p3 p4 p5 p6 p7 p8 p9 p10 p11 p12 p13 p14 p15 p16 p17 p18 p19 p20 p21 p22 q (suc (suc (suc (suc (suc (suc (suc (suc (suc (suc zero)))))))))) = p10
by_byte P p0 p1 p2 p3 p4 p5 p6 p7 p8 p9 p10 p11 p12 p13 p14 p15 p16 p17 p18 p19 p20 p21 p22 q (suc (suc (suc (suc (suc (suc (suc (suc (suc (suc (suc zero))))))))))) = p11
by_byte P p0 p1 p2 p3 p4 p5 p6 p7 p8 p9 p10 p11 p12 p13 p14 p15 p16 p17 p18 p19 p20 p21 p22 q (suc (suc (suc (suc (suc (suc (suc (suc (suc (suc (suc (suc zero)))))))))))) = p12
by_byte P p0 p1 p2 p3 p4 p5 p6 p7 p8 p9 p10 p11 p12 p13 p14 p15 p16 p17 p18 p19 p20 p21 p22 q (suc (suc (suc (suc (suc (suc (suc (suc (suc (suc (suc (suc (suc zero))))))))))))) = p13
by_byte P p0 p1 p2 p3 p4 p5 p6 p7 p8 p9 p10 p11 p12 p13 p14 p15 p16 p17 p18 p19 p20 p21 p22 q (suc (suc (suc (suc (suc (suc (suc (suc (suc (suc (suc (suc (suc (suc zero)))))))))))))) = p14
by_byte P p0 p1 p2 p3 p4 p5 p6 p7 p8 p9 p10 p11 p12 p13 p14 p15 p16 p17 p18 p19 p20 p21 p22 q (suc (suc (suc (suc (suc (suc (suc (suc (suc (suc (suc (suc (suc (suc (suc zero))))))))))))))) = p15
by_byte P p0 p1 p2 p3 p4 p5 p6 p7 p8 p9 p10 p11 p12 p13 p14 p15 p16 p17 p18 p19 p20 p21 p22 q (suc (suc (suc (suc (suc (suc (suc (suc (suc (suc (suc (suc (suc (suc (suc (suc zero)))))))))))))))) = p16
by_byte P p0 p1 p2 p3 p4 p5 p6 p7 p8 p9 p10 p11 p12 p13 p14 p15 p16 p17 p18 p19 p20 p21 p22 q (suc (suc (suc (suc (suc (suc (suc (suc (suc (suc (suc (suc (suc (suc (suc (suc (suc zero))))))))))))))))) = p17
by_byte P p0 p1 p2 p3 p4 p5 p6 p7 p8 p9 p10 p11 p12 p13 p14 p15 p16 p17 p18 p19 p20 p21 p22 q (suc (suc (suc (suc (suc (suc (suc (suc (suc (suc (suc (suc (suc (suc (suc (suc (suc (suc zero)))))))))))))))))) = p18
by_byte P p0 p1 p2 p3 p4 p5 p6 p7 p8 p9 p10 p11 p12 p13 p14 p15 p16 p17 p18 p19 p20 p21 p22 q (suc (suc (suc (suc (suc (suc (suc (suc (suc (suc (suc (suc (suc (suc (suc (suc (suc (suc (suc zero))))))))))))))))))) = p19
by_byte P p0 p1 p2 p3 p4 p5 p6 p7 p8 p9 p10 p11 p12 p13 p14 p15 p16 p17 p18 p19 p20 p21 p22 q (suc (suc (suc (suc (suc (suc (suc (suc (suc (suc (suc (suc (suc (suc (suc (suc (suc (suc (suc (suc zero)))))))))))))))))))) = p20
by_byte P p0 p1 p2 p3 p4 p5 p6 p7 p8 p9 p10 p11 p12 p13 p14 p15 p16 p17 p18 p19 p20 p21 p22 q (suc (suc (suc (suc (suc (suc (suc (suc (suc (suc (suc (suc (suc (suc (suc (suc (suc (suc (suc (suc (suc zero))))))))))))))))))))) = p21
by_byte P p0 p1 p2 p3 p4 p5 p6 p7 p8 p9 p10 p11 p12 p13 p14 p15 p16 p17 p18 p19 p20 p21 p22 q (suc (suc (suc (suc (suc (suc (suc (suc (suc (suc (suc (suc (suc (suc (suc (suc (suc (suc (suc (suc (suc (suc zero)))))))))))))))))))))) = p22
by_byte P p0 p1 p2 p3 p4 p5 p6 p7 p8 p9 p10 p11 p12 p13 p14 p15 p16 p17 p18 p19 p20 p21 p22 q (suc (suc (suc (suc (suc (suc (suc (suc (suc (suc (suc (suc (suc (suc (suc (suc (suc (suc (suc (suc (suc (suc (suc n))))))))))))))))))))))) = q _ (omega arith)

-- what a run takes
pub runs : (pool : List Const) (k : ℕ) (n : ℕ) → runnable_as pool k (get_or actions n other) ≡ true → Runs n
runs pool k =
    by_byte (λ n a. runnable_as pool k a ≡ true → Runs n)
    (λ e. Runs.produces Produces.constant)
    (λ e. Runs.produces (Produces.infixed InfixAt.add))
    (λ e. Runs.pop)
    (λ e. Runs.produces (Produces.infixed InfixAt.sub))
    (λ e. Runs.produces (Produces.infixed InfixAt.mul))
    (λ e. Runs.produces (Produces.infixed InfixAt.div))
    (λ e. Runs.produces Produces.yes)
    (λ e. Runs.produces Produces.no)
    (λ e. Runs.produces (Produces.infixed InfixAt.equals))
    (λ e. Runs.produces (Produces.infixed InfixAt.differs))
    (λ e. Runs.produces (Produces.infixed InfixAt.greater))
    (λ e. Runs.produces (Produces.prefixed PrefixAt.minus))
    (λ e. Runs.produces (Produces.prefixed PrefixAt.bang))
    (λ e. Runs.jump_not_truthy)
    (λ e. Runs.jump)
    (λ e. Runs.produces Produces.null)
    (λ e. Runs.produces Produces.get_global)
    (λ e. Runs.set_global)
    (λ e. contrary e)
    (λ e. contrary e)
    (λ e. contrary e)
    (λ e. contrary e)
    (λ e. Runs.return_value)
    (λ n h e. contrary e)
