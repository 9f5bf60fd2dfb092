-- Fields that were stored at the start of what is lent.
use Rattle.std.proofs.Common.{◌≡◌, ℕ, zero, suc, ◌+◌, ◌-◌, ◌<◌, ◌≤◌, [], ◌∷◌, ◌++◌, length, take, drop, set, sym, refl, ap, ◌∙◌, subst, append-nil, arith, length-append, length-drop, length-take-le}
use Rattle.std.proofs.lemmas.List.{drop_all, take_more_set}
use lib.Seq.{sets}
use borrow.Rule.Slice.PartMut.{put_mid, mid_of}
use Rattle.definition.specs.Basic.{Bytes}
use Rattle.definition.specs.Output.{over}
use Rattle.definition.specs.Tag.{tag_string}
use Rattle.definition.specs.Field.{field}
use Rattle.session.specs.Write.{heading}
use Rattle.session.proofs.Stores.{sets_over}
use Rattle.definition.specs.Node
use Rattle.definition.specs.Node.{Node, leaf, node, Nodes, ◌then◌, one, written, written_all}
use Rattle.load.specs.Size.{size, size_all}
use Rattle.load.specs.Draw.{Drawn, drawn, bind, draw}
use Rattle.load.specs.Load.{letters}
use Rattle.load.specs.Writing.{Wrote, WroteAll}
use Rattle.load.proofs.Leaves.{letters-length}
use Rattle.load.proofs.Parts.{written-size, written_sizes}
use Rattle.load.proofs.Behind.{over-part, head-behind, part-behind}

-- a field of bytes
pub leaf_wrote : (t : ℕ) (content : Bytes) (s : ℕ) (before after : Bytes) → 3 + length content ≤ length before → after ≡ sets before 0 (field t content)
    → Wrote (drawn (leaf t content) s) (3 + length content) s before after
unfolding written size
leaf_wrote t content s before after h p = record { bytes = p ∙ sets_over before (field t content) (omega arith); len = refl; state = refl; within = h }

-- what was drawn, named otherwise
pub wrote_as : {x y : Drawn Node} {n t : ℕ} {before after : Bytes} → x ≡ y → Wrote x n t before after → Wrote y n t before after
wrote_as {n = n} {t = t} {before = b} {after = a} e = subst (λ z. Wrote z n t b a) e

-- after a draw
pub draw-wrote : (f : ℕ → ℕ → Drawn Node) (c state : ℕ) {k s : ℕ} {n t : ℕ} {b after : Bytes} → k ≡ (draw c state).value → s ≡ (draw c state).state → Wrote (f k s) n t b after → Wrote (bind (draw c state) f) n t b after
draw-wrote f c state q e w = wrote_as (λ i. f (q i) (e i)) w

-- bytes over the front of others change no length
length_over : (x b : Bytes) → length x ≤ length b → length (over x b) ≡ length b
length_over x b h = omega (arith, length-append x (drop (length x) b), length-drop (length x) b)

-- nor does a field that was written
pub wrote-length : {x : Drawn Node} {n t : ℕ} {b after : Bytes} → Wrote x n t b after → length after ≡ length b
wrote-length {x = x} {b = b} w = ap length w.bytes ∙ length_over (written x.value) b (omega (arith, written-size x.value, w.within))

-- a part's length
pub length_mid : (n k : ℕ) (b : Bytes) → n + k ≤ length b → length (mid_of n k b) ≡ k
length_mid n k b h = length-take-le k (drop n b) (omega (arith, length-drop n b))

-- what is left behind the first ones
pub length_left : (n : ℕ) (b : Bytes) → n ≤ length b → length (mid_of n (length b - n) b) ≡ length b - n
length_left n b h = length_mid n (length b - n) b (omega arith)

-- a field that was written into a front part stands at the front of the whole
pub front_wrote : {x : Drawn Node} {n t : ℕ} (b : Bytes) (k : ℕ) {inner mid : Bytes} → k ≤ length b → Wrote x n t (mid_of 0 k b) inner → mid ≡ put_mid 0 k b inner → Wrote x n t b mid
front_wrote {x = x} b k h w q =
    let l = length_mid 0 k b (omega arith) in
    let s : size x.value ≤ k = omega (arith, w.within) in
    record {
      bytes = q ∙ ap (put_mid 0 k b) w.bytes ∙ over-part (written x.value) k b (omega (arith, written-size x.value));
      len = w.len;
      state = w.state;
      within = omega arith;
    }

-- no fields
pub none_wrote : (s : ℕ) (b : Bytes) → WroteAll (drawn Node.none s) 0 s b b
unfolding written size
none_wrote s b = record { bytes = refl; len = refl; state = refl; within = omega arith }

-- a field, and others behind it
pub then_wrote : {x : Drawn Node} {ys : Drawn Nodes} {n t m u : ℕ} (b : Bytes) (k : ℕ) {mid inner after : Bytes} → Wrote x n t b mid → n + k ≤ length mid → WroteAll ys m u (mid_of n k mid) inner → after ≡ put_mid n k mid inner
    → WroteAll (drawn (x.value then ys.value) ys.state) (n + m) u b after
unfolding written size
then_wrote {x = x} {ys = ys} {n = n} b k {mid} w h v q =
    let lx = written-size x.value in
    let ly = written_sizes ys.value in
    let lm = wrote-length w in
    let within : size_all ys.value ≤ k = omega (arith, v.within, length_mid n k mid (omega arith)) in
    record {
      bytes = part-behind b (written x.value) (written_all ys.value) {k = k} {n = n} (omega (arith, w.len)) (omega arith) w.bytes v.bytes q;
      len = omega (arith, w.len, v.len);
      state = v.state;
      within = omega (arith, w.len);
    }

-- fields written behind the place of a head, and then the head
pub node_wrote : (tag : ℕ) {xs : Drawn Nodes} {n t : ℕ} (b : Bytes) (k : ℕ) {inner mid after : Bytes} → 3 + k ≤ length b → WroteAll xs n t (mid_of 3 k b) inner → mid ≡ put_mid 3 k b inner
    → after ≡ sets mid 0 (heading tag n) → Wrote (bind xs (λ xs. drawn (node tag xs))) (3 + n) t b after
unfolding written size
node_wrote tag {xs = xs} {n = n} b k h w q p =
    let lx = written_sizes xs.value in
    let within : size_all xs.value ≤ k = omega (arith, w.within, length_mid 3 k b h) in
    record {
      bytes = head-behind tag n b (written_all xs.value) {k = k} (omega arith) (omega arith) (omega (arith, w.len)) w.bytes q p;
      len = ap (λ n. 3 + n) w.len;
      state = w.state;
      within = omega arith;
    }

-- a letter more
letters-suc : (n s : ℕ) → letters (suc n) s ≡ record { value = (letters n s).value ++ (0x61 + (draw 26 (letters n s).state).value) ∷ []; state = (draw 26 (letters n s).state).state }
letters-suc zero s = refl
letters-suc (suc n) s =
    let k = (draw 26 s).value in
    ap (λ (x : Drawn Bytes). drawn ((0x61 + k) ∷ x.value) x.state) (letters-suc n (draw 26 s).state)

-- written behind those before it
pub letter-more : (i s : ℕ) (b : Bytes) {k t u : ℕ} → i < length b → take i b ≡ (letters i s).value → t ≡ (letters i s).state → k ≡ (draw 26 t).value → u ≡ (draw 26 t).state
    → (take (i + 1) (set b i (0x61 + k)) ≡ (letters (i + 1) s).value) × (u ≡ (letters (i + 1) s).state)
letter-more i s b {k} h p q d e =
    let l : suc i ≡ i + 1 = omega arith in
    let m = letters-suc i s in (
      take_more_set b i (0x61 + k) h
          ∙ (λ j. p j ++ (0x61 + (d ∙ ap (λ t. (draw 26 t).value) q) j) ∷ [])
          ∙ ap (λ (x : Drawn Bytes). x.value) (sym m ∙ ap (λ n. letters n s) l),
      e ∙ ap (λ t. (draw 26 t).state) q ∙ ap (λ (x : Drawn Bytes). x.state) (sym m ∙ ap (λ n. letters n s) l),
    )

-- bytes over as many others are those bytes
over_all : (c l : Bytes) → length c ≡ length l → over c l ≡ c
over_all c l e = ap (λ z. c ++ z) (drop_all (length c) l (omega arith)) ∙ append-nil c

-- a String: letters behind the place of its head, then the head
pub string_wrote : (s n k : ℕ) {u : ℕ} (b : Bytes) {inner after : Bytes} → 3 + n ≤ length b → k ≡ n → inner ≡ (letters (length (mid_of 3 k b)) s).value → u ≡ (letters (length (mid_of 3 k b)) s).state
    → after ≡ sets (put_mid 3 k b inner) 0 (heading tag_string n) → Wrote (bind (letters n s) (λ b. drawn (leaf tag_string b))) (3 + n) u b after
unfolding written size
string_wrote s n k b h f w e p =
    let c = (letters n s).value in
    let l : length c ≡ n = letters-length n s in
    let m : length (mid_of 3 k b) ≡ n = length_mid 3 k b (omega arith) ∙ f in
    record {
      bytes = head-behind tag_string n b c {k = k} (omega arith) (omega arith) (omega arith) (w ∙ ap (λ n. (letters n s).value) m ∙ sym (over_all c (mid_of 3 k b) (omega arith))) refl p;
      len = ap (λ n. 3 + n) (sym l);
      state = e ∙ ap (λ n. (letters n s).state) m;
      within = omega arith;
    }
