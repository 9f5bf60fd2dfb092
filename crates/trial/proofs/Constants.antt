-- The constant of an index in a pool that is read one after the other.
use Rattle.std.proofs.Common.{◌≡◌, ℕ, ◌+◌, ◌<◌, ◌≤◌, Bool, true, false, eqb, List, [], ◌∷◌, length, sym, refl, ap, ◌∙◌, subst, ◌-◌, arith, eq-eqb, ne_eqb}
use Rattle.std.specs.Prelude.{Some, None, None as none}
use Rattle.std.proofs.Math.Option.{none as missing, some as found}
use borrow.Author.Tests.{eqb-false}
use Rattle.definition.specs.Basic.{Bytes, byte_at}
use Rattle.definition.specs.Limit.{constants_limit}
use Rattle.definition.specs.Tag.{tag_integer_const, tag_string_const}
use Rattle.definition.specs.Field.{head, bytes}
use Rattle.definition.specs.Bytecode.{Const}
use Rattle.definition.specs.Decode.{decoded, const_head, read_content, read_const}
use Rattle.definition.specs.Trusted.{constant_at}
use Rattle.definition.proofs.Basic.{pick_true, pick_false}
use Rattle.bytecode.proofs.Fields.{head_read}
use Rattle.listing.specs.Reads.{PoolAt}
use Rattle.listing.proofs.Items.{Reading, begins, ends, all_read as read_all}
use Rattle.listing.proofs.Constants.{integer-length, function_is}
use Rattle.heights.specs.Chunks.{Standing}
use Rattle.heights.proofs.Judges.{Turn, turn}
use Rattle.bytecode.specs.Constants.{SpanIs, Ended, GivesSpan}
use Rattle.bytecode.specs.declared.constants.PoolConstants.{PoolConstants as Walk}
use Rattle.bytecode.specs.declared.span.Span.{Span}
use Rattle.bytecode.proofs.EachConstant.{Over, over_again}
use Rattle.heights.proofs.EachConstant.{turn_at, all_read}
use Rattle.std.specs.Iterator.{Yields, SkipsThenYields}
use Rattle.trial.specs.Run.{integer_in}

-- a constant by its tag
module _ (b : Bytes) {at next : ℕ} {x : Const} (s : Standing b at next x) where
  content : read_content (byte_at b) (head (byte_at b) at) (at + 3) ≡ decoded x (at + 3 + (head (byte_at b) at).len)
  content = (head_read (byte_at b) at s.end (const_head (byte_at b)) (read_content (byte_at b)) s.constant.reads).1

  -- an integer
  pub is-integer : byte_at b at ≡ tag_integer_const → ((head (byte_at b) at).len ≡ 8) × (x ≡ Const.integer (bytes (byte_at b) (at + 3) 8))
  is-integer e =
      let l = integer-length b at s.end s.constant e in
      let r : decoded (Const.integer (bytes (byte_at b) (at + 3) (head (byte_at b) at).len)) (at + 3 + (head (byte_at b) at).len) ≡ decoded x (at + 3 + (head (byte_at b) at).len) = rw (eq-eqb (byte_at b at) tag_integer_const e) at content in
      let i : x ≡ Const.integer (bytes (byte_at b) (at + 3) (head (byte_at b) at).len) = cc in
      (l, i ∙ ap (λ n. Const.integer (bytes (byte_at b) (at + 3) n)) l)

  -- or none
  pub no_integer : (byte_at b at ≡ tag_integer_const → ⊥) → integer_in (found x) ≡ none
  no_integer n = go (eqb (byte_at b at) tag_string_const) refl
    where
      go : (t : Bool) → eqb (byte_at b at) tag_string_const ≡ t → integer_in (found x) ≡ none
      go true u =
          let r : decoded (Const.string (bytes (byte_at b) (at + 3) (head (byte_at b) at).len)) (at + 3 + (head (byte_at b) at).len) ≡ decoded x (at + 3 + (head (byte_at b) at).len) = rw (ne_eqb (byte_at b at) tag_integer_const n, u) at content in
          let i : Const.string (bytes (byte_at b) (at + 3) (head (byte_at b) at).len) ≡ x = cc in
          sym (ap (λ x. integer_in (found x)) i)
      go false u = let f = function_is b at s.end s.constant n refl (eqb-false (byte_at b at) tag_string_const u) s.constant.within in sym (ap (λ x. integer_in (found x)) f.is)

-- there is no constant behind the last
pub none_behind : (cs : List Const) (k : ℕ) → length cs ≤ k → constant_at cs k ≡ missing
none_behind [] k h = refl
none_behind (c ∷ cs) k h = pick_false (found c) (constant_at cs k) (ne_eqb (length cs) k (λ e. omega arith)) ∙ none_behind cs k (omega arith)

-- the loop over a pool
module _ (b : Bytes) (start k : ℕ) where
  pub record PoolLoop (at left : ℕ) : Type 0 where
    pub constants : List Const
    pub reading : Reading (read_const (byte_at b)) (length b) constants_limit start constants at
    pub order : at ≤ length b
    pub index : length constants + left ≡ k

  pub pool-begins : start ≤ length b → PoolLoop start k
  pool-begins h = record { constants = []; reading = begins (read_const (byte_at b)) (length b) constants_limit start; order = h; index = omega arith }

  module _ {at left : ℕ} (l : PoolLoop at left) {cs : List Const} (h : PoolAt b start (length b) cs) where
    -- at the end all were read
    pub pool_ends : length b ≤ at → integer_in (constant_at cs k) ≡ none
    pool_ends g =
        let e : at ≡ length b = omega (arith, l.order) in
        let q = ends (read_const (byte_at b)) (length b) constants_limit start l.reading h.reads e in
        ap (λ cs. integer_in (constant_at cs k)) (sym q) ∙ ap integer_in (none_behind l.constants k (omega (arith, l.index)))

    module _ (before : at < length b) where
      pub there : {len : ℕ} → len ≡ (head (byte_at b) at).len → Turn b start (length b) at l.constants (at + 3 + len)
      there e = turn b h l.reading before e

      -- the constant of the index
      module _ (z : left ≡ 0) where
        record Found (ds : List Const) : Type 0 where
          many : k < length ds
          is : constant_at ds k ≡ found (there refl).x

        one : (ds : List Const) (y : Const) → Found ds → Found (y ∷ ds)
        one ds y f = record { many = omega (arith, f.many); is = pick_false (found y) (constant_at ds k) (ne_eqb (length ds) k (λ e. omega (arith, f.many))) ∙ f.is }

        pub here : constant_at cs k ≡ found (there refl).x
        here =
            let g = (there refl).reading in
            let e : length l.constants ≡ k = omega (arith, l.index) in
            let f : Found ((there refl).x ∷ l.constants) = record { many = omega arith; is = pick_true (found (there refl).x) (constant_at l.constants k) (eq-eqb (length l.constants) k e) } in
            (read_all (read_const (byte_at b)) (length b) (λ ds _. Found ds) (λ xs _ y _ p _. one xs y p) g.rest ((there refl).x ∷ l.constants) (at + 3 + (head (byte_at b) at).len) (sym g.same ∙ h.reads) f).is

  -- the constants that an iterator passed over
  walked : (xs : List Span) {s t : Walk} {left : ℕ} {cs : List Const} → PoolAt b start (length b) cs → Over b (length b) s.constants → PoolLoop s.constants.at left → length xs ≤ left → Yields GivesSpan s xs t
      → Over b (length b) t.constants × PoolLoop t.constants.at (left - length xs)
  walked [] {s} {t} {left} h o l q e =
      (subst (λ (t : Walk). Over b (length b) t.constants) e o, subst (λ (t : Walk). PoolLoop t.constants.at (left - 0)) e (subst (PoolLoop s.constants.at) (omega arith) l))
  walked (x ∷ xs) {s} {t} {left} h o l q y =
      let n = y.1.is in
      let u = turn_at o n h (subst (Reading (read_const (byte_at b)) (length b) constants_limit start l.constants) (sym n.here) l.reading) in
      let m : PoolLoop y.0.constants.at (left - 1) =
      subst (λ a. PoolLoop a (left - 1)) (sym n.behind) (record { constants = u.x ∷ l.constants; reading = u.reading; order = u.within; index = omega (arith, l.index) }) in
      let r = walked xs h (over_again o n) m (omega arith) y.2 in
      (r.0, subst (PoolLoop t.constants.at) (omega arith) r.1)

  -- one that stands at the index, or none
  pub record StandsAt (x : Span) : Type 0 where
    pub bytes : x.bytes.now ≡ b
    pub loop : PoolLoop x.start 0
    pub before : x.start < length b

  module _ {s : Walk} (o : Over b (length b) s.constants) (l : PoolLoop s.constants.at k) {cs : List Const} (h : PoolAt b start (length b) cs) (xs : List Span) {t : Walk} (y : Yields GivesSpan s xs t) where
    pub stands_at : {x : Span} {u : Walk} → SpanIs t x u → length xs ≡ k → StandsAt x
    stands_at {x} i q =
        let w = walked xs h o l (omega arith) y in
        let n = i.is in
        record {
          bytes = i.bytes ∙ w.0.image;
          loop = subst (λ a. PoolLoop a 0) (sym n.here) (subst (PoolLoop t.constants.at) (omega arith) w.1);
          before = subst (λ a. a < length b) (sym n.here) (subst (λ e. t.constants.at < e) w.0.stops n.before);
        }

    pub none_left : Ended t.constants → length xs ≤ k → integer_in (constant_at cs k) ≡ none
    none_left e q =
        let w = walked xs h o l q y in
        pool_ends w.1 h (all_read w.0 h w.1.reading e)

-- the same of an iterator from the pool's start
pub nth_stands : (b : Bytes) {start k : ℕ} {s u : Walk} → s.constants.image.now ≡ b → s.constants.at ≡ start → s.constants.end ≡ length b → {cs : List Const} → PoolAt b start (length b) cs → {x : Span} → SkipsThenYields GivesSpan s k (Some x) u → StandsAt b start k x
nth_stands b {start} {k} i f e h r =
    let l = subst (λ at. PoolLoop b start k at k) (sym f) (pool-begins b start k h.order) in
    stands_at b start k (record { image = i; stops = e }) l h r.0 r.1.1 r.1.2 r.2

pub nth_none : (b : Bytes) {start k : ℕ} {s : Walk} (u : Walk) → s.constants.image.now ≡ b → s.constants.at ≡ start → s.constants.end ≡ length b → {cs : List Const} → PoolAt b start (length b) cs → SkipsThenYields GivesSpan s k None u → integer_in (constant_at cs k) ≡ none
nth_none b {start} {k} u i f e h r =
    let l = subst (λ at. PoolLoop b start k at k) (sym f) (pool-begins b start k h.order) in
    none_left b start k (record { image = i; stops = e }) l h r.0 r.1.1 r.1.2 r.2

-- an integer that stands at the index fills eleven bytes
pub integer_within : (b : Bytes) {start k : ℕ} {x : Span} → StandsAt b start k x → {cs : List Const} → PoolAt b start (length b) cs → byte_at b x.start ≡ tag_integer_const → x.start + 11 ≤ length b
integer_within b {start} {k} s h e =
    let t = there b start k s.loop h s.before refl in
    omega (arith, t.behind, t.within, (is-integer b t.standing e).0)
