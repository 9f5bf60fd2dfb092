-- `put_content` meets its contract, by the token's kind.
use Prim.Native.Nat.{◌+◌, ◌-◌, ◌≤◌}
use lib.ListN.{length}
use Rattle.definition.proofs.Bytes.{length-bytes, bytes_slice}
use Rattle.definition.specs.Basic.{byte_at}
use Rattle.text.specs.Kind.{number_of}
use Rattle.text.specs.Scan.{value, integer_limit}
use Rattle.text.specs.Seen.{within_limit}
use Rattle.text.specs.declared.kind.Kind.TheVariants.{Integer, String, True, False}
use Rattle.text.proofs.Contents.{content_integer, content_string, content_true, content_false, content-bytes, put_done}
use Rattle.text.proofs.Numbers.{apart}
use Rattle.text.proofs.Skips.{limit_within}
use Rattle.text.proofs.RowAt.{end_within}
use mathlib.Core.Path.{sym, ap, subst, ◌∙◌}
use native.Mathlib.Omega.{arith}
use Rattle.std.proofs.Common.{rules}
use Rattle.text.proofs.part.put_content.Goals as goal

pub unwrap-requires : goal.unwrap-requires
unwrap-requires c =
    let h = c.requires.0 in
    let from = c.args.token.start in
    let n = c.args.token.end - from in
    let w : from + n ≤ length c.args.text.now = omega (arith, h.order, h.within, end_within c.args.text.now) in
    let small = subst (λ bs. value 0 bs ≤ integer_limit) (bytes_slice c.args.text.now from n w) (h.integer (ap number_of c.in-Integer.is)) in
    let some = c.value.ensures ∙ limit_within _ small in
    search rules

pub returns-in-Integer : goal.returns-in-Integer
returns-in-Integer c =
    let h = c.requires.0 in
    let k = ap number_of c.in-Integer.is in
    let b = c.to_be_bytes.ensures in
    let from = c.args.token.start in
    let n = c.args.token.end - from in
    let w : from + n ≤ length c.args.text.now = omega (arith, h.order, h.within, end_within c.args.text.now) in
    let v = sym c.unwrap.ensures ∙ c.value.ensures ∙ ap (λ bs. within_limit (value 0 bs)) (sym (bytes_slice c.args.text.now from n w)) in
    put_done c.args.text.now c.args.token c.args.to c.args.output.now (content_integer c.args.text.now c.args.token k (h.integer k) _ v ∙ sym b) c.put_bytes.ensures.behind c.put_bytes.ensures.puts (omega (arith, ap length b))

pub returns-in-String : goal.returns-in-String
returns-in-String c =
    let h = c.requires.0 in
    let k = ap number_of c.in-String.is in
    let from = c.args.token.start + 1 in
    let n = c.args.token.end - 1 - from in
    let w : from + n ≤ length c.args.text.now = omega (arith, h.string k, h.within, end_within c.args.text.now) in
    let b = bytes_slice c.args.text.now from n w in
    put_done c.args.text.now c.args.token c.args.to c.args.output.now (content_string c.args.text.now c.args.token k ∙ b) c.put_bytes-in-String.ensures.behind c.put_bytes-in-String.ensures.puts (omega (arith, ap length b, length-bytes (byte_at c.args.text.now) from n))

pub returns-in-True : goal.returns-in-True
returns-in-True c =
    put_done c.args.text.now c.args.token c.args.to c.args.output.now (content_true c.args.text.now c.args.token (ap number_of c.in-True.is)) c.put_bytes-in-True.ensures.behind c.put_bytes-in-True.ensures.puts (omega arith)

pub returns-in-False : goal.returns-in-False
returns-in-False c =
    put_done c.args.text.now c.args.token c.args.to c.args.output.now (content_false c.args.text.now c.args.token (ap number_of c.in-False.is)) c.put_bytes-in-False.ensures.behind c.put_bytes-in-False.ensures.puts (omega arith)

pub returns-in_default : goal.returns-in_default
returns-in_default c =
    let h = c.requires.0 in
    let o = c.in_default in
    let from = c.args.token.start in
    let n = c.args.token.end - from in
    let w : from + n ≤ length c.args.text.now = omega (arith, h.order, h.within, end_within c.args.text.now) in
    let b = bytes_slice c.args.text.now from n w in
    put_done c.args.text.now c.args.token c.args.to c.args.output.now (content-bytes c.args.text.now c.args.token (apart _ Integer o.not-Integer) (apart _ String o.not-String) (apart _ True o.not-True) (apart _ False o.not-False) ∙ b) c.put_bytes-in_default.ensures.behind c.put_bytes-in_default.ensures.puts (omega (arith, ap length b, length-bytes (byte_at c.args.text.now) from n))
