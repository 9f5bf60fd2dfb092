-- Making a session.
use Prim.Native.Nat.{ℕ, ◌+◌, ◌-◌, ◌≤◌, ◌<◌}
use native.Mathlib.Omega.{arith}
use mathlib.Core.List.{List, ◌++◌, reverse}
use mathlib.Core.Path.{◌≡◌, refl, sym, ap, ◌∙◌}
use lib.ListN.{length, replicate, length-append, length-replicate, replicate-append-replicate}
use lib.Seq.{sets}
use borrow.Author.Tests.{le-leb, lt-leb}
use Rattle.definition.specs.Basic.{Bytes}
use Rattle.definition.specs.Call.{made}
use Rattle.definition.specs.Output.{over}
use Rattle.definition.specs.Limit.{session_size}
use Rattle.definition.specs.Number
use Rattle.definition.specs.Number.{refusal}
use Rattle.definition.specs.Tag.{tag_words, tag_names, tag_pool}
use Rattle.definition.specs.Field.{field}
use Rattle.definition.specs.Session.{listed, begun, fresh, names_bytes, session_fields, session_bytes}
use Rattle.std.specs.Prelude.{Ok, Err}
use Rattle.definition.proofs.Basic.{pick_true, pick_false}
use Rattle.session.specs.Write.{heading}
use Rattle.session.proofs.Stores.{sets_append, sets_front, sets_over}

-- a short buffer is refused and left as it was
pub made_short : (s : Bytes) → length s < session_size → made s ≡ record { answer = Err (refusal Number.short_buffer 0); session = s }
unfolding made
made_short s h = pick_false _ _ (lt-leb session_size (length s) h)

-- fields over 65,536 zeros
zeros_under : (s fields : Bytes) → length fields ≤ session_size → session_size ≤ length s
    → sets (sets s 0 (replicate session_size 0)) 0 fields ≡ over (fields ++ replicate (session_size - length fields) 0) s
zeros_under s fields h l =
    let n = length fields in
    let rest : Bytes = replicate (session_size - n) 0 in
    let all : n + (session_size - n) ≡ session_size = omega arith in
    let split : replicate session_size 0 ≡ replicate n 0 ++ rest = ap (λ m. replicate m 0) (sym all) ∙ sym (replicate-append-replicate n (session_size - n) 0) in
    ap (λ m. sets (sets s 0 m) 0 fields) split
    ∙ sets_front s 0 (replicate n 0) fields rest (length-replicate n 0)
    ∙ sets_over s (fields ++ rest) (omega (arith, length-append fields rest, length-replicate {A = ℕ} (session_size - n) 0))

-- zeros over 65,536 bytes, and the two heads
pub made-fresh : (s : Bytes) {z h r : Bytes} → session_size ≤ length s → z ≡ sets s 0 (replicate session_size 0) → h ≡ sets z 0 (heading tag_names 0) → r ≡ sets h 3 (heading tag_pool 0)
    → made s ≡ record { answer = Ok session_size; session = r }
unfolding made
made-fresh s {z} {h} {r} e p q t =
    let done : r ≡ over (session_bytes fresh) s =
    t
    ∙ ap (λ m. sets m 3 (heading tag_pool 0)) q
    ∙ sets_append z 0 (heading tag_names 0) (heading tag_pool 0) refl
    ∙ ap (λ m. sets m 0 (session_fields fresh)) p
    ∙ zeros_under s (session_fields fresh) (omega arith) e in
    pick_true _ _ (le-leb session_size (length s) e) ∙ (λ i. record { answer = Ok session_size; session = sym done i })

-- zeros, the words' field, and the two heads
pub begun_session : (s words : Bytes) {z f h r : Bytes} {n : ℕ} → session_size ≤ length s → length words ≤ 840 → n ≡ 3 + length words → z ≡ sets s 0 (replicate session_size 0)
    → f ≡ sets z 0 (field tag_words words) → h ≡ sets f n (heading tag_names 0) → r ≡ sets h (n + 3) (heading tag_pool 0)
    → (ws : List Bytes) → names_bytes (reverse ws) ≡ words → r ≡ over (session_bytes (begun (listed ws))) s
begun_session s words {z} {f} {h} {r} {n} e k m p q t u ws same =
    let first = field tag_words words in
    let names = heading tag_names 0 in
    let pool = heading tag_pool 0 in
    let front = length-append first names in
    let l = length-append (first ++ names) pool in
    u
    ∙ ap (λ b. sets b (n + 3) pool) (t ∙ ap (λ b. sets b n names) q ∙ sets_append z 0 first names (omega arith))
    ∙ sets_append z 0 (first ++ names) pool (omega arith)
    ∙ ap (λ b. sets b 0 ((first ++ names) ++ pool)) p
    ∙ zeros_under s ((first ++ names) ++ pool) (omega arith) e
    ∙ (λ i. let b = (field tag_words (sym same i) ++ names) ++ pool in over (b ++ replicate (session_size - length b) 0) s)
