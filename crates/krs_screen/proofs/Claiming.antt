-- What is safe to pass names its peer, or nobody.
use Rattle.std.proofs.Common.{[], ◌*◌, ◌+◌, ◌<◌, ◌==◌, ◌∙◌, ◌∷◌, ◌≡◌, ◌≤◌, arith, eqb-true, Err, inl, inr, length, List}
use Rattle.std.proofs.Common.{Ok, slice_index, Some, suc, sym, true, zero, ℕ}
use Rattle.std.specs.List.{list_any}
use Rattle.std.proofs.lemmas.Bool.{Decides.nat_tests, or_cases}
use Rattle.krs_types.specs.{Caller.{caller_check, no_id}, declared.ask.Op.TheVariants.Hello as AsksHello}
use Rattle.krs_types.specs.declared.{caller.Caller.Caller, errno.Errno.TheVariants.EINVAL}
use Rattle.krs_wire.specs.{declared.framed.Framed.Framed, Frame.front_of as read_front}
use Rattle.krs_screen.specs.{Claim.{are_groups, is_group, is_own, is_void, some_nobody}, declared.claim.Peer.Peer}
use Rattle.krs_screen.specs.{declared.front.Front.{Front, TheVariants.{Crowd, Hello}}, Front.{front_of, le32}}
use Rattle.krs_screen.specs.{Reading.{Harmless, IsPeers, Sees}, Step.Safe}
use Rattle.krs_screen.proofs.Seeing.{seen}
use Rattle.std.proofs.lemmas.Grind.{common_steps}

any_at : (xs : List ℕ) (i : ℕ) → i < length xs → slice_index xs i ≡ no_id → list_any (λ n. n == no_id) xs ≡ true
any_at [] i h e = absurd (omega (arith, h))
any_at (x ∷ xs) zero h e = grind (arith, nat_tests)
any_at (x ∷ xs) (suc i) h e = let less : i < length xs = omega arith in grind (arith, nat_tests, any_at xs i less e)

nobody_among : (bytes gs : List ℕ) (at count : ℕ) → count ≤ length gs
    → ((i : ℕ) → i < count → le32 bytes (at + 4 * i) ≡ slice_index gs i) → some_nobody bytes at count ≡ true
    → list_any (λ n. n == no_id) gs ≡ true
nobody_among bytes gs at zero fit same e = absurd cc
nobody_among bytes gs at (suc k) fit same e =
    elim (or_cases (some_nobody bytes at k) (le32 bytes (at + 4 * k) == no_id) e) [
      | inl before ↦ nobody_among bytes gs at k (omega arith) (λ i h. same i (omega (arith, h))) before
      | inr here ↦ any_at gs k (omega arith) (sym (same k (omega arith)) ∙ eqb-true _ _ here)
    ]

each_is_group : (peer : Peer) (groups bytes : List ℕ) (at count : ℕ) → are_groups peer groups bytes at count ≡ true
    → (i : ℕ) → i < count → is_group peer groups (le32 bytes (at + 4 * i)) ≡ true
each_is_group peer groups bytes at zero e i h = absurd (omega (arith, h))
each_is_group peer groups bytes at (suc k) e i h = grind (arith, nat_tests, each_is_group peer groups bytes at k)

void_named : (bytes : List ℕ) (caller : Caller) (at count : ℕ) → Sees bytes caller (Hello at count)
    → is_void bytes at count ≡ true → caller_check caller ≡ Err EINVAL
unfolding is_void
void_named bytes caller at count s e = grind (arith, common_steps, nobody_among, nat_tests)

own_named : (peer : Peer) (groups bytes : List ℕ) (caller : Caller) (at count : ℕ) → Sees bytes caller (Hello at count)
    → is_own peer groups bytes at count ≡ true → IsPeers peer groups caller
unfolding is_own
own_named peer groups bytes caller at count s e = grind (arith, common_steps, nat_tests, each_is_group)

harmless : (peer : Peer) (groups bytes : List ℕ) (caller : Caller) (f : Front) → Sees bytes caller f
    → Safe peer groups bytes f → Harmless peer groups caller
harmless peer groups bytes caller (Crowd frame at) s safe = grind (arith, common_steps, nat_tests)
harmless peer groups bytes caller (Hello at count) s safe = grind (arith, common_steps, void_named, or_cases, own_named)
harmless peer groups bytes caller front s safe = absurd s

pub claims : (peer : Peer) (groups bytes : List ℕ) (framed : Framed) (more : List ℕ) (caller : Caller)
    → ((i : ℕ) → slice_index bytes i < 256) → read_front bytes ≡ Ok (Some (framed, more))
    → framed.ask.op ≡ AsksHello caller → Safe peer groups bytes (front_of bytes) → Harmless peer groups caller
claims peer groups bytes framed more caller fits is op safe = grind (arith, common_steps, harmless, seen)
