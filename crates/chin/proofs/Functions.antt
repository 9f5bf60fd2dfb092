-- A constant in the other form: a function has another tag and its code turned, any other stays.
use Prim.Native.Nat.{ℕ, suc, ◌+◌, ◌/◌, ◌%◌, ◌≤◌}
use native.Mathlib.Omega.{arith}
use mathlib.Core.List.{[], ◌∷◌, ◌++◌, append_assoc}
use mathlib.Core.Path.{◌≡◌, refl, sym, ap, subst, ◌∙◌}
use lib.ListN.{length, take, drop, set, length-append, length-drop, length-set}
use lib.Seq.{set_at, take_at, drop_at, get_or-set_other}
use Rattle.definition.specs.Basic.{Bytes, byte_at}
use Rattle.definition.specs.Field.{head}
use Rattle.definition.specs.Bytecode.{Code, encode, Const, content}
use Rattle.definition.specs.Valid.{All, ValidInstr, ValidConst}
use Rattle.definition.proofs.Bytes.{Stands, stands_head, stands_tail, stands_at}
use Rattle.definition.proofs.Items.{Item}
use Rattle.definition.proofs.Instructions.{code-length, read-code}
use Rattle.bytecode.specs.declared.Form.{Form}
use Rattle.bytecode.specs.declared.Form.TheVariants.{Plain, Chin}
use Rattle.bytecode.specs.Form.{tag_function_in, tag_in, const_in}
use Rattle.bytecode.proofs.ReadConstants.{not_integer, not_string}
use Rattle.bytecode.proofs.Fields.{const_ends_in}
use Rattle.std.specs.Prelude.{Result, Ok}
use Rattle.chin.specs.declared.BadJump.{BadJump}
use Rattle.chin.specs.Turn.{Made, made, stopped, along, turn_code, turn_const}
use Rattle.chin.specs.Rows.{other_form, jump_of, verdict, Same, CodeAt, HasCode, TurnsCode, ConstAt, TurnsConst}
use Rattle.chin.proofs.Constants.{write_const}
use Rattle.chin.proofs.Rows.{first, made_once}
use Rattle.chin.proofs.Operands.{Returns, distance_returns, target_returns}
use Rattle.chin.proofs.Turns.{turn-code, code-size}
use Rattle.chin.proofs.Stores.{front, tail_byte}

-- jumps come back, from either form
pub returns_of : (f : Form) → Returns (jump_of f) (jump_of (other_form f))
returns_of Plain = distance_returns
returns_of Chin = target_returns

-- turned code is as long
pub turned-length : (f : Form) (start : ℕ) {c d : Code} → All ValidInstr c → turn_code (jump_of f) start c ≡ made d → length (encode d) ≡ length (encode c)
turned-length f start {c} {d} v e = omega (arith, code-length c, code-length d, code-size (returns_of f) (turn-code (returns_of f) start v e))

-- what is made of it does not matter to the verdict
pub verdict-along : {A B : Type 0} (m : Made A) (k : A → B) → verdict (along m (λ x. made (k x))) ≡ verdict m
verdict-along (made x) k = refl
verdict-along (stopped p) k = refl

-- six bytes are a function's head and its numbers
abbrev six : ℕ → ℕ → ℕ → ℕ → Bytes
six t n l p = t ∷ n / 256 % 256 ∷ n % 256 ∷ l / 256 % 256 ∷ l % 256 ∷ p % 256 ∷ []

module _ (f : Form) (b : Bytes) (at end : ℕ) {x : Const} (a : ConstAt f b at end x) where
  stands : Item (byte_at b) (const_in f) ValidConst at x (at + 3 + (head (byte_at b) at).len)
  stands = write_const f a.small.below at end a.reads

  -- the content's length is the head's
  pub const_length : (head (byte_at b) at).len ≡ length (content x)
  const_length = omega (arith, stands.upto)

  pub const_within : at + 3 + (head (byte_at b) at).len ≤ length b
  const_within = omega (arith, a.within, (const_ends_in (byte_at b) at end f x (at + 3 + (head (byte_at b) at).len) a.reads).1)

  tag_is : byte_at b at ≡ tag_in f x
  tag_is = stands_head stands.stands

  -- what stands in the image stands in the output
  behind : {o : Bytes} → Same o b at (at + 3 + length (content x)) → drop at o ≡ const_in f x ++ drop (at + 3 + length (content x)) o
  behind {o} s =
      let n : at + length (const_in f x) ≡ at + 3 + length (content x) = omega arith in
      front s at (const_in f x) (omega arith) (omega arith) stands.stands ∙ ap (λ k. const_in f x ++ drop k o) n

-- a constant that is no function stays
stays : (f : Form) (b : Bytes) (at end : ℕ) {x : Const} → ConstAt f b at end x → turn_const (jump_of f) (at + 3) x ≡ made x → const_in (other_form f) x ≡ const_in f x → (o : Bytes) → TurnsConst f b at x o o (Ok tt)
stays f b at end {x} a t same o =
    record {
      judged = sym (ap verdict t);
      written = λ y e p o₀ long is s.
          let r = drop (at + 3 + length (content x)) o₀ in
          is ∙ ap (λ z. p ++ z) (behind f b at end a s) ∙ sym (append_assoc p (const_in f x) r) ∙ ap (λ z. (p ++ z) ++ r) (sym same)
          ∙ ap (λ z. (p ++ const_in (other_form f) z) ++ r) (made_once (sym t ∙ e));
    }

pub const_stays : (f : Form) (b : Bytes) (at end : ℕ) (x : Const) → ConstAt f b at end x → (byte_at b at ≡ tag_function_in f → ⊥) → (o : Bytes) → TurnsConst f b at x o o (Ok tt)
const_stays f b at end (Const.integer v) a n o = stays f b at end a refl refl o
const_stays f b at end (Const.string v) a n o = stays f b at end a refl refl o
const_stays f b at end (Const.function l p c) a n o = absurd (n (tag_is f b at end a))

module _ (f : Form) (b : Bytes) (at end l q : ℕ) (c : Code) (a : ConstAt f b at end (Const.function l q c)) where
  abbrev next : ℕ
  next = at + 3 + length (content (Const.function l q c))

  code_stands : Stands (byte_at b) (at + 6) (encode c)
  code_stands =
      let numbers = stands_tail (stands_tail (stands_tail (stands f b at end a).stands)) in
      stands_at (omega arith) (stands_tail (stands_tail (stands_tail numbers)))

  valid : All ValidInstr c
  valid = (stands f b at end a).sound.2

  -- its code
  pub function_code : CodeAt b (at + 6) next c
  function_code =
      let n = code-length c in
      let k = const_within f b at end a in
      let m = const_length f b at end a in
      record {
        order = omega arith;
        within = omega arith;
        small = a.small;
        reads = read-code {byte = byte_at b} valid _ (at + 6) next (omega arith) code_stands (omega arith);
      }

  module _ {o₀ o : Bytes} (p : Bytes) (long : length p ≡ at) (is : o ≡ p ++ drop at o₀) (s : Same o₀ b at next) where
    -- the output with the other tag
    abbrev tagged : Bytes
    tagged = set o at (tag_function_in (other_form f))

    abbrev headed : Bytes
    headed = p ++ six (tag_function_in (other_form f)) (length (content (Const.function l q c))) l q

    tagged_is : tagged ≡ headed ++ (encode c ++ drop next o₀)
    tagged_is =
        let n = length (content (Const.function l q c)) in
        let r = n / 256 % 256 ∷ n % 256 ∷ l / 256 % 256 ∷ l % 256 ∷ q % 256 ∷ (encode c ++ drop next o₀) in
        ap (λ z. set z at (tag_function_in (other_form f))) (is ∙ ap (λ z. p ++ z) (behind f b at end a s))
        ∙ set_at p (tag_function_in f) r (tag_function_in (other_form f)) at long
        ∙ sym (append_assoc p (six (tag_function_in (other_form f)) n l q) (encode c ++ drop next o₀))

    headed_long : length headed ≡ at + 6
    headed_long = omega (arith, length-append p (six (tag_function_in (other_form f)) (length (content (Const.function l q c))) l q))

    pub tagged_same : Same tagged b (at + 6) next
    tagged_same =
        record {
          room = omega (arith, length-set o at (tag_function_in (other_form f)), ap length is, length-append p (drop at o₀), length-drop at o₀, s.room);
          bytes = λ k g h.
              let other : k ≡ at → ⊥ = λ e. omega arith in
              get_or-set_other o at k (tag_function_in (other_form f)) 0 other ∙ ap (λ z. byte_at z k) is ∙ tail_byte p o₀ at k long (omega arith) ∙ s.bytes k (omega arith) h;
        }

    pub function_written : {o' : Bytes} {d : Code} → turn_code (jump_of f) (at + 6) c ≡ made d → o' ≡ (take (at + 6) tagged ++ encode d) ++ drop next tagged
        → o' ≡ (p ++ const_in (other_form f) (Const.function l q d)) ++ drop next o₀
    function_written {d = d} e w =
        let front-is : take (at + 6) tagged ≡ headed = ap (take (at + 6)) tagged_is ∙ take_at headed (encode c ++ drop next o₀) (at + 6) headed_long in
        let all = headed ++ encode c in
        let all-long : length all ≡ next = omega (arith, length-append headed (encode c), headed_long) in
        let back_is : drop next tagged ≡ drop next o₀ = ap (drop next) (tagged_is ∙ sym (append_assoc headed (encode c) (drop next o₀))) ∙ drop_at all (drop next o₀) next all-long in
        let n : length (encode c) ≡ length (encode d) = sym (turned-length f (at + 6) valid e) in
        w ∙ (λ i. (front-is i ++ encode d) ++ back_is i)
        ∙ ap (λ z. z ++ drop next o₀) (append_assoc p (six (tag_function_in (other_form f)) (length (content (Const.function l q c))) l q) (encode d))
        ∙ ap (λ k. (p ++ (six (tag_function_in (other_form f)) (suc (suc (suc k))) l q ++ encode d)) ++ drop next o₀) n

  pub const_turned : {o o' : Bytes} {r : Result (Unit {0}) BadJump} → TurnsCode (jump_of f) b (at + 6) next c (set o at (tag_function_in (other_form f))) o' r → TurnsConst f b at (Const.function l q c) o o' r
  const_turned {o} {o'} {r} t =
      let same : at + 3 + 3 ≡ at + 6 = omega arith in
      record {
        judged = t.judged ∙ ap (λ k. verdict (turn_code (jump_of f) k c)) (sym same) ∙ sym (verdict-along (turn_code (jump_of f) (at + 3 + 3) c) (λ d. Const.function l q d));
        written = λ y e p o₀ long is s.
            let m = first (turn_code (jump_of f) (at + 3 + 3) c) (λ d. made (Const.function l q d)) e in
            let k : turn_code (jump_of f) (at + 6) c ≡ made m.value = ap (λ j. turn_code (jump_of f) j c) (sym same) ∙ m.made₁ in
            function_written p long is s k (t.written m.value k (tagged_same p long is s))
            ∙ ap (λ z. (p ++ const_in (other_form f) z) ++ drop next o₀) (made_once m.rest);
      }

-- A constant with a function's tag, by its head's length: its code is there, and the constant is turned with it
module _ (f : Form) (b : Bytes) (at end : ℕ) where
  pub function_at : (x : Const) → ConstAt f b at end x → byte_at b at ≡ tag_function_in f → {len : ℕ} → len ≡ (head (byte_at b) at).len → HasCode b (at + 6) (at + 3 + len)
  function_at (Const.integer v) a e k = absurd (not_integer f (sym e ∙ tag_is f b at end a))
  function_at (Const.string v) a e k = absurd (not_string f (sym e ∙ tag_is f b at end a))
  function_at (Const.function l q c) a e k =
      record { code = c; is = subst (λ n. CodeAt b (at + 6) (at + 3 + n) c) (sym (k ∙ const_length f b at end a)) (function_code f b at end l q c a) }

  pub function_turned : (x : Const) → ConstAt f b at end x → byte_at b at ≡ tag_function_in f → {len : ℕ} → len ≡ (head (byte_at b) at).len → {o o₁ o' : Bytes} {r : Result (Unit {0}) BadJump}
      → o₁ ≡ set o at (tag_function_in (other_form f)) → ((c : Code) → CodeAt b (at + 6) (at + 3 + len) c → TurnsCode (jump_of f) b (at + 6) (at + 3 + len) c o₁ o' r)
      → TurnsConst f b at x o o' r
  function_turned (Const.integer v) a e k h t = absurd (not_integer f (sym e ∙ tag_is f b at end a))
  function_turned (Const.string v) a e k h t = absurd (not_string f (sym e ∙ tag_is f b at end a))
  function_turned (Const.function l q c) a e {len} k {o} {o₁} {o'} {r} h t =
      let n : len ≡ length (content (Const.function l q c)) = k ∙ const_length f b at end a in
      let there = subst (λ m. CodeAt b (at + 6) (at + 3 + m) c) (sym n) (function_code f b at end l q c a) in
      const_turned f b at end l q c a (subst (λ z. TurnsCode (jump_of f) b (at + 6) (next f b at end l q c a) c z o' r) h (subst (λ m. TurnsCode (jump_of f) b (at + 6) (at + 3 + m) c o₁ o' r) n (t c there)))
