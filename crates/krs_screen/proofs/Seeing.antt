-- What a daemon reads as HELLO is seen as HELLO.
use Rattle.std.proofs.Common.{[], ◌*◌, ◌++◌, ◌+◌, ◌<◌, ◌^◌, ◌∙◌, ◌∷◌, ◌≡◌, ◌≤◌, ◌⊎◌, ap, append-nil, arith, Bool, cond}
use Rattle.std.proofs.Common.{drop, false, flat_map, inl, inr, length, length-append, List, nat_lt, None, Ok, Option}
use Rattle.std.proofs.Common.{refl, slice_index, Some, subst, suc, sym, take, true, w32, zero, ℕ}
use Rattle.std.specs.{Int.{from_le_bytes, to_le_bytes}, List.AllByRecursion}
use Rattle.std.proofs.{lemmas.{Grind.common_steps, Nat.from_le_bytes-to_le_bytes_4}, Math.Seq.drop-append-add}
use Rattle.krs_types.specs.declared.{ask.{Ask.Ask, Op.{Op, TheVariants.Hello as AsksHello}}, caller.Caller.Caller}
use Rattle.krs_wire.specs.{declared.framed.Framed.Framed, Encoding.{ask_frame, ask_text, FitsAsk}}
use Rattle.krs_wire.specs.Frame.{front_of as read_front}
use Rattle.krs_wire.proofs.{AskLemmas.front_takes, CountLemmas.length_numbers}
use Rattle.krs_screen.specs.{declared.front.Front.{Front, TheVariants.{Crowd, Hello}}, Front.{front_by, front_of}}
use Rattle.krs_screen.specs.{Front.{hello_front, le16, le32}, Reading.Sees}
use Rattle.krs_screen.proofs.{Knowing.hello_is_known, Staying.at_of}

abbrev choice : (b : Bool) (frame at count : ℕ) → Front
choice b frame at count = cond b (Crowd frame at) (Hello at count)

pub seen_in : (bytes : List ℕ) (caller : Caller) (b : Bool) (frame at count : ℕ) → nat_lt 32 count ≡ b
    → le32 bytes at ≡ caller.uid → le32 bytes (at + 4) ≡ caller.gid → count ≡ length caller.groups
    → ((i : ℕ) → i < count → le32 bytes (at + 12 + 4 * i) ≡ slice_index caller.groups i)
    → Sees bytes caller (choice b frame at count)
seen_in bytes caller true frame at count e u g c gs = (u, grind (arith, common_steps))
seen_in bytes caller false frame at count e u g c gs = (u, g, c, gs)

abbrev encoded : List ℕ → List ℕ
encoded xs = flat_map (λ n. to_le_bytes w32 n) xs

-- each of some encoded numbers, whatever follows them
pub number_at : (xs more : List ℕ) (i : ℕ) → i < length xs → AllByRecursion (λ n. n < 256 ^ 4) xs
    → from_le_bytes w32 (take 4 (drop (4 * i) (encoded xs ++ more))) ≡ slice_index xs i
number_at [] more i h all = absurd (omega (arith, h))
number_at (x ∷ xs) more zero h all = from_le_bytes-to_le_bytes_4 x all.0
number_at (x ∷ xs) more (suc i) h all =
    let at : 4 + 4 * i ≡ 4 * suc i = omega arith in
    let rest : drop (4 + 4 * i) (to_le_bytes w32 x ++ (encoded xs ++ more)) ≡ drop (4 * i) (encoded xs ++ more) =
    drop-append-add (to_le_bytes w32 x) (encoded xs ++ more) (4 * i) in
    let less : i < length xs = omega (arith, h) in
    subst (λ k. from_le_bytes w32 (take 4 (drop k (encoded (x ∷ xs) ++ more))) ≡ slice_index xs i) at
    (ap (λ bs. from_le_bytes w32 (take 4 bs)) rest ∙ number_at xs more i less all.1)

-- the same behind the last field of a body
-- with what stands at its front, by its version
front_seen : (bytes : List ℕ) (v n count : ℕ) → (v ≡ 1) ⊎ (v ≡ 2) → le32 bytes 0 ≡ n → le16 bytes 4 ≡ v
    → le16 bytes 6 ≡ 256 → le32 bytes (at_of v + 8) ≡ count → n ≡ at_of v + 8 + 4 * count → n ≤ 65536
    → 4 + n ≤ length bytes → front_of bytes ≡ choice (nat_lt 32 count) (4 + n) (at_of v) count
unfolding front_of front_by hello_front
front_seen bytes v n count either l w o k e most there = grind (arith, common_steps, hello_is_known)

abbrev hello : ℕ → Caller → Ask
hello context caller = record { context = context; op = AsksHello caller }

-- a HELLO's fields, its groups, and whatever follows them
abbrev behind : (front more : List ℕ) → Caller → List ℕ
behind front more caller = front ++ ((encoded caller.groups ++ []) ++ more)

seen_at : (front more : List ℕ) (caller : Caller) (v n : ℕ) → (v ≡ 1) ⊎ (v ≡ 2) → length front ≡ at_of v + 12
    → le32 (behind front more caller) 0 ≡ n → le16 (behind front more caller) 4 ≡ v
    → le16 (behind front more caller) 6 ≡ 256 → n ≡ at_of v + 8 + 4 * length caller.groups → n ≤ 65536
    → le32 (behind front more caller) (at_of v) ≡ caller.uid
    → le32 (behind front more caller) (at_of v + 4) ≡ caller.gid
    → le32 (behind front more caller) (at_of v + 8) ≡ length caller.groups
    → AllByRecursion (λ n. n < 256 ^ 4) caller.groups
    → Sees (behind front more caller) caller (front_of (behind front more caller))
unfolding le32
seen_at front more caller v n either head l w o size most u g k all =
    let bytes : List ℕ = behind front more caller in
    let count : ℕ = length caller.groups in
    let rest : List ℕ = (encoded caller.groups ++ []) ++ more in
    let there : 4 + n ≤ length bytes = omega (
      arith,
      length-append front rest,
      length-append (encoded caller.groups ++ []) more,
      length-append (encoded caller.groups) [],
      length_numbers caller.groups,
    ) in
    let gs : (i : ℕ) → i < count → le32 bytes (at_of v + 12 + 4 * i) ≡ slice_index caller.groups i = λ i h.
    rw (← head, drop-append-add front rest (4 * i), append-nil (encoded caller.groups))
    (number_at caller.groups more i h all) in
    rw (front_seen bytes v n count either l w o k size most there)
    (seen_in bytes caller (nat_lt 32 count) (4 + n) (at_of v) count refl u g refl gs)

seen_by : (tag : Option ℕ) (context : ℕ) (caller : Caller) (more : List ℕ) → FitsAsk tag (hello context caller)
    → Sees (ask_frame tag (hello context caller) ++ more) caller (front_of (ask_frame tag
    (hello context caller) ++ more))
unfolding le16 le32
seen_by None context caller more fits =
    let n : ℕ = length (ask_text None (hello context caller)) in
    let small : n < 2 ^ 32 = omega (arith, fits.size) in
    let size : n ≡ 20 + 4 * length caller.groups =
    omega (arith, length_numbers caller.groups, ap length (append-nil (encoded caller.groups))) in
    seen_at (take 24 (ask_frame None (hello context caller))) more caller 1 n (inl refl) refl
    (from_le_bytes-to_le_bytes_4 n small) refl refl size fits.size (from_le_bytes-to_le_bytes_4 caller.uid fits.op.0.0)
    (from_le_bytes-to_le_bytes_4 caller.gid fits.op.0.1.0)
    (from_le_bytes-to_le_bytes_4 (length caller.groups) fits.op.0.1.1.0) fits.op.0.1.1.1
seen_by (Some tag) context caller more fits =
    let n : ℕ = length (ask_text (Some tag) (hello context caller)) in
    let small : n < 2 ^ 32 = omega (arith, fits.size) in
    let size : n ≡ 28 + 4 * length caller.groups =
    omega (arith, length_numbers caller.groups, ap length (append-nil (encoded caller.groups))) in
    seen_at (take 32 (ask_frame (Some tag) (hello context caller))) more caller 2 n (inr refl) refl
    (from_le_bytes-to_le_bytes_4 n small) refl refl size fits.size (from_le_bytes-to_le_bytes_4 caller.uid fits.op.0.0)
    (from_le_bytes-to_le_bytes_4 caller.gid fits.op.0.1.0)
    (from_le_bytes-to_le_bytes_4 (length caller.groups) fits.op.0.1.1.0) fits.op.0.1.1.1

seen_ask : (tag : Option ℕ) (context : ℕ) (op : Op) (caller : Caller) (more : List ℕ) → op ≡ AsksHello caller
    → FitsAsk tag (record { context = context; op = op })
    → Sees (ask_frame tag (record { context = context; op = op }) ++ more) caller
    (front_of (ask_frame tag (record { context = context; op = op }) ++ more))
seen_ask tag context op caller more is fits =
    subst (λ op'. FitsAsk tag (record { context = context; op = op' })
    → Sees (ask_frame tag (record { context = context; op = op' }) ++ more) caller
    (front_of (ask_frame tag (record { context = context; op = op' }) ++ more)))
    (sym is) (seen_by tag context caller more) fits

pub seen : (bytes : List ℕ) (framed : Framed) (more : List ℕ) (caller : Caller) → ((i : ℕ) → slice_index bytes i < 256)
    → read_front bytes ≡ Ok (Some (framed, more)) → framed.ask.op ≡ AsksHello caller
    → Sees bytes caller (front_of bytes)
seen bytes framed more caller fits is op =
    let p = front_takes bytes framed more fits is in
    rw p.0 (seen_ask framed.tag framed.ask.context framed.ask.op caller more op p.1)
