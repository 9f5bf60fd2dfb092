-- Images in a form agree, but for literal bytes, with what is written once literals are erased: the definition's Agreement for both forms.
use Rattle.definition.specs.Tag.{tag_pool, tag_integer_const, tag_string_const}
use Rattle.definition.specs.Bytecode.{Const, Image}
use Rattle.definition.specs.Literal.{const_mask, image_mask}
use Rattle.definition.specs.Series.{Agree}
use Rattle.definition.proofs.Agreement.{erase_image, agree_zeros, agree-append, agree-field, agree-written, agree-code, image_mask_erase, agreed}
use Rattle.definition.proofs.Erase.{erase_const, Alike}
use Rattle.bytecode.specs.declared.Form.{Form}
use Rattle.bytecode.specs.Form.{tag_main_in, tag_function_in, const_in, image_in}

agree_const : (f : Form) (c : Const) → Agree (const_mask c) (const_in f c) (const_in f (erase_const c))
agree_const f (Const.integer b) = agree-field tag_integer_const (agree_zeros b)
agree_const f (Const.string b) = agree-field tag_string_const (agree_zeros b)
agree_const f (Const.function l p c) = agree-field (tag_function_in f) (Agree.same _ (Agree.same _ (Agree.same _ (agree-code c))))

agree-image : (f : Form) (m : Image) → Agree (image_mask m) (image_in f m) (image_in f (erase_image m))
agree-image f m = agree-append (agree-field (tag_main_in f) (agree-code m.code)) (agree-field tag_pool (agree-written const_mask (const_in f) (agree_const f) m.pool))

-- two that are like a third agree by its mask
pub forms_agree : (f : Form) {p x y : Image} → Alike erase_image x p → Alike erase_image y p → Agree (image_mask p) (image_in f x) (image_in f y)
forms_agree f = agreed image_mask (image_in f) (agree-image f) image_mask_erase
