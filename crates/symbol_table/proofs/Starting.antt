-- The names of a session, entered one after the other: what is left decides.
use Prim.Native.Nat.{ℕ, ◌+◌, ◌-◌, ◌%◌, ◌≤◌, ◌<◌}
use mathlib.Core.Path.{◌≡◌, refl, sym, ap, ◌∙◌}
use mathlib.Core.Logic.{◌≢◌}
use mathlib.Core.List.{List, [], ◌∷◌, ◌++◌}
use mathlib.Core.Option.{none}
use native.Mathlib.Omega.{arith}
use lib.ListN.{length, get_or, set, take, drop, replicate, length-set, length-drop, length-replicate, get_or-append}
use Rattle.std.proofs.lemmas.List.{get_or-append-add, get_or-replicate}
use borrow.Rule.Slice.PartMut.{put_mid, post_of}
use lib.Seq.{get_or-set_same, get_or-set_other, length-take-le, take_at, drop_at}
use Rattle.definition.specs.Basic.{Bytes, byte_at}
use Rattle.definition.specs.Limit.{session_size, globals_limit}
use Rattle.definition.specs.SymbolTable.{find_global}
use Rattle.definition.specs.Decode.{decoded, items, read_name_field}
use Rattle.definition.specs.Tag.{tag_names}
use Rattle.field.specs.Layout.{after, content}
use Rattle.field.specs.Fields.{FieldsTo}
use Rattle.field.proofs.EachField.{row_fields}
use Rattle.field.proofs.Reading.{items-row, items_none, Next, items_next, IsRead, name_read, NamesRead, names-read}
use Rattle.symbol_table.specs.Name.{Stands, buckets, hash_of}
use Rattle.symbol_table.specs.Search.{child_of, ends}
use Rattle.symbol_table.specs.Layout.{globals_size, heads_at, back, GoodGlobals, globals_of, Good}
use Rattle.symbol_table.specs.Contract.{Addable, Adds, HasNames, HasItems, StartsGlobals, StartsFrom, Starts}
use Rattle.symbol_table.proofs.Names.{len_take, content-take}
use Rattle.symbol_table.proofs.Nodes.{child_none}
use Rattle.symbol_table.proofs.Adding.{old_names, old_count, old_good, none_more}

-- names that are left to enter, from an offset to the end
pub record Begun (session : Bytes) (start end : ℕ) (g : List ℕ) (at : ℕ) : Type 0 where
  pub before : at ≤ end
  pub within : end ≤ length session
  pub left : (tree : Bytes) (h : HasItems session start end) → items (read_name_field (byte_at session)) (globals_limit - get_or g 0 0) (globals_of tree (take end session) g) at end ≡ decoded h.names h.stop
  pub good : (tree : Bytes) → GoodGlobals tree (take end session) g
  pub none : (h : ℕ) → h < buckets → child_of (get_or g (heads_at + h) 0) 1 ≡ 0

-- they can be gone over
pub items_fields : {session : Bytes} {from end : ℕ} → HasItems session from end → FieldsTo session end from
items_fields {session} {from} {end} h = row_fields (record { names = _; row = (items-row session globals_limit [] from end h.within h.reads).row; within = h.within })

module _ (session : Bytes) (start : ℕ) where
  -- no global yet
  pub begun-start : (g : List ℕ) → length g ≡ globals_size → ((h : ℕ) → h < buckets → get_or g (heads_at + h) 0 ≡ 0) → (end : ℕ) → HasItems session start end → Begun session start end (set g 0 0) start
  unfolding globals_of back find_global
  begun-start g size clear end has =
      let inside : 0 < length g = omega arith in
      let no : get_or (set g 0 0) 0 0 ≡ 0 = get_or-set_same g 0 0 0 inside in
      record {
        before = has.order;
        within = has.within;
        left = λ tree h. rw no h.reads;
        good = λ tree. record {
          size = length-set g 0 0 ∙ size;
          count = omega arith;
          stands = λ i l. absurd (omega arith);
          finds = λ n. record {
            new = none;
            old = none;
            below_new = ends (empty (hash_of n % buckets) (omega arith) 1) refl;
            below_old = ends (empty (hash_of n % buckets) (omega arith) 0) refl;
            latest = rw no;
          };
        };
        none = λ h l. empty h l 1;
      }
    where
      empty : (h : ℕ) → h < buckets → (t : ℕ) → child_of (get_or (set g 0 0) (heads_at + h) 0) t ≡ 0
      empty h l t =
          let other : heads_at + h ≢ 0 = omega arith in
          rw (get_or-set_other g 0 (heads_at + h) 0 0 other, clear h l) (child_none 0 t)

  module _ (end : ℕ) (g : List ℕ) (at : ℕ) (x : Begun session start end g at) where
    -- the next name
    pub record Here : Type 0 where
      pub fits : after session at ≤ end
      pub room : get_or g 0 0 < globals_limit
      pub rest : (tree : Bytes) (h : HasItems session start end) → items (read_name_field (byte_at session)) (globals_limit - get_or g 0 0 - 1) (content session at ∷ globals_of tree (take end session) g) (after session at) end ≡ decoded h.names h.stop

    pub begun_here : HasItems session start end → at < end → Here
    begun_here has l = record { fits = (read [] has).fits; room = omega (arith, (next [] has).some); rest = λ tree h. rw (← (read tree h).name, ← (read tree h).next) (next tree h).rest }
      where
        next : (tree : Bytes) (h : HasItems session start end) → Next (read_name_field (byte_at session)) (globals_limit - get_or g 0 0) (globals_of tree (take end session) g) at end h.names h.stop
        next tree h = items_next (read_name_field (byte_at session)) (globals_limit - get_or g 0 0) (globals_of tree (take end session) g) at end h.names h.stop (λ e. omega arith) (x.left tree h)

        read : (tree : Bytes) (h : HasItems session start end) → IsRead session at end (next tree h).first (next tree h).at₁
        read tree h = name_read session at end (next tree h).first (next tree h).at₁ x.within (next tree h).here

    -- its name, and where it stands
    same_name : Here → content (take end session) at ≡ content session at
    same_name here = content-take session at end here.fits

    stands_here : Here → Stands (take end session) at
    stands_here here = rw (len_take session at end here.fits, length-take-le end session x.within) here.fits

    -- it can be added
    pub begun_addable : (hash : ℕ) → length session ≤ session_size → Here → hash ≡ hash_of (content session at) → Addable (take end session) 0 g at hash
    begun_addable hash small here is =
        record {
          size = (x.good []).size;
          room = here.room;
          named = record { stands = stands_here here; is = is ∙ ap hash_of (sym (same_name here)) };
          within = omega (arith, here.fits, x.within);
          found = ((x.good []).finds (content (take end session) at)).old;
          way = ((x.good []).finds (content (take end session) at)).below_old;
        }

    pub begun-step : (g' : List ℕ) → length session ≤ session_size → Here → Adds (take end session) 0 at g g' → Begun session start end g' (after session at)
    begun-step g' small here a =
        let size : length g ≡ globals_size = (x.good []).size in
        let inside : at < 65536 = omega (arith, here.fits, x.within) in
        let names = take end session in
        record {
          before = here.fits;
          within = x.within;
          left = λ tree h.
              let n : globals_limit - get_or g' 0 0 ≡ globals_limit - get_or g 0 0 - 1 = omega (arith, old_count tree names g g' at size here.room inside a) in
              rw (n, old_names tree names g g' at size here.room inside a, same_name here) (here.rest tree h);
          good = λ tree. old_good tree names g g' at here.room inside (x.good tree) x.none (stands_here here) a;
          none = none_more [] names g g' at here.room inside (x.good []) x.none a;
        }

    pub begun_none : HasItems session start end → end ≤ at → StartsGlobals session start end g
    begun_none has l = record { globals = λ tree h. all tree h.names h.stop (x.left tree h); good = x.good }
      where
        all : (tree : Bytes) (ns : List Bytes) (e : ℕ) → items (read_name_field (byte_at session)) (globals_limit - get_or g 0 0) (globals_of tree (take end session) g) at end ≡ decoded ns e → globals_of tree (take end session) g ≡ ns
        all tree ns e h = cc (items_none (read_name_field (byte_at session)) (globals_limit - get_or g 0 0) (globals_of tree (take end session) g) at end (omega arith))

-- a part from the heads on that is zeroed: each is 0
pub heads_cleared : (g : List ℕ) (k h : ℕ) {x : List ℕ} → heads_at + k ≡ length g → h < k → x ≡ replicate (length (take k (drop heads_at g))) 0 → get_or (put_mid heads_at k g x) (heads_at + h) 0 ≡ 0
heads_cleared g k h {x} e b z =
    let front = take heads_at g in
    let rest = post_of heads_at k g in
    let l : length front ≡ heads_at = length-take-le heads_at g (omega arith) in
    let m : length (take k (drop heads_at g)) ≡ k = length-take-le k (drop heads_at g) (omega (arith, length-drop heads_at g)) in
    let r : length x ≡ k = ap length z ∙ length-replicate (length (take k (drop heads_at g))) 0 ∙ m in
    ap (λ n. get_or (front ++ (x ++ rest)) (n + h) 0) (sym l)
    ∙ get_or-append-add front (x ++ rest) h 0
    ∙ get_or-append x rest 0 h (omega arith)
    ∙ ap (λ x. get_or x h 0) z
    ∙ get_or-replicate (length (take k (drop heads_at g))) h 0 0 (omega arith)

-- in the whole area
pub started : (session : Bytes) (from end : ℕ) (a g' : List ℕ) → length g' ≡ globals_size → StartsGlobals session from end g' → StartsFrom session from end a (g' ++ drop globals_size a)
unfolding Good
started session from end a g' size x =
    let whole : take globals_size (g' ++ drop globals_size a) ≡ g' = take_at g' (drop globals_size a) globals_size size in
    record { globals = λ tree h. rw whole (x.globals tree h); good = λ tree. rw whole (x.good tree); above = drop_at g' (drop globals_size a) globals_size size }

module _ {session : Bytes} {start : ℕ} where
  -- the fields of a session's names
  pub has-items : HasNames session start → {end : ℕ} → end ≡ after session start → HasItems session (start + 3) end
  has-items h e =
      let r : NamesRead session globals_limit start h.names h.end = names-read session tag_names globals_limit start h.names h.end h.reads in
      record { names = h.names; stop = h.end; reads = rw e r.items; order = omega arith; within = omega (arith, r.fits) }

  -- from the start of all of them
  pub starts : {end : ℕ} {a a' : List ℕ} → end ≡ after session start → StartsFrom session (start + 3) end a a' → Starts session start end a a'
  unfolding has-items
  starts e x = record { globals = λ tree h. x.globals tree (has-items h e); good = x.good; above = x.above }
