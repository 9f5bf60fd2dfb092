-- `chin::translate` meets its contract: the check, the jumps, then the output.
use Rattle.definition.proofs.Slices.{are_bytes}
use mathlib.Core.List.{[]}
use mathlib.Core.Path.{◌∙◌, ap, sym, subst}
use lib.ListN.{length}
use Rattle.definition.proofs.Basic.{passed_on}
use Rattle.chin.specs.Chin.{answer_of, output_of}
use Rattle.chin.specs.Rows.{TurnsImage, Copied}
use Rattle.chin.proofs.Calls.{sound_form, wrong_form, bad_form, fine_answer, fine_output, empty-part}
use Rattle.chin.proofs.translate.Goals as goal

pub put_form-requires : goal.put_form-requires
put_form-requires c = (let a = c.args in
    let bytes = are_bytes c.type_inv.image in
    sound_form a.from a.image.now c.check_form.ensures c.in_ok-check_form.was bytes)

pub write_form-requires : goal.write_form-requires
write_form-requires c = (let a = c.args in
    let bytes = are_bytes c.type_inv.image in
    sound_form a.from a.image.now c.check_form.ensures c.in_ok-check_form.was bytes)

pub returns-in_err-check_form : goal.returns-in_err-check_form
returns-in_err-check_form c =
    let a = c.args in
    let wrong = wrong_form a.from a.image.now c.check_form.ensures c.in_err-check_form.was in
    record {
      answer = passed_on c.from_residual.ensures.1 ∙ sym (ap (λ g. answer_of g (length a.output.now)) wrong);
      output = sym (ap (λ g. output_of g a.output.now) wrong);
    }

pub returns-in_err-put_form : goal.returns-in_err-put_form
returns-in_err-put_form c =
    let a = c.args in
    let b = a.image.now in
    let put = c.put_form in
    let h = (let a = c.args in
    let bytes = are_bytes c.type_inv.image in
    sound_form a.from a.image.now c.check_form.ensures c.in_ok-check_form.was bytes) in
    let bad = bad_form a.from b h.is (subst (λ r. TurnsImage a.from h.image b [] put.new.output r) c.in_err-put_form.was (put.ensures h.image h.is)) in
    record {
      answer = passed_on c.from_residual-in_err-put_form.ensures.1 ∙ sym (ap (λ g. answer_of g (length a.output.now)) bad);
      output = empty-part put.new.output a.output.now put.auto.output ∙ sym (ap (λ g. output_of g a.output.now) bad);
    }

pub returns : goal.returns
returns c =
    let a = c.args in
    let b = a.image.now in
    let put = c.put_form in
    let write = c.write_form in
    let h = (let a = c.args in
    let bytes = are_bytes c.type_inv.image in
    sound_form a.from a.image.now c.check_form.ensures c.in_ok-check_form.was bytes) in
    let fine = subst (λ r. TurnsImage a.from h.image b [] put.new.output r) c.in_ok-put_form.was (put.ensures h.image h.is) in
    let copied = subst (λ o. Copied a.from h.image o write.result write.new.output) (empty-part put.new.output a.output.now put.auto.output) (write.ensures h.image h.is) in
    record {
      answer = fine_answer a.from b h.is fine copied;
      output = fine_output a.from b h.is fine copied;
    }
