-- The contexts of a client.
use Rattle.std.proofs.Common.{◌==◌, ◌≡◌, Err, false, if◌then◌else◌, None, Ok, Option, Some, true, ℕ}
use Rattle.krs_types.specs.Refusing.{◌>>=◌, or_refuse}
use Rattle.krs_types.specs.declared.{context.Context.Context, errno.Errno.TheVariants.ESRCH}
use Rattle.krs_model.specs.{Lookup.{context_of, if_own}, State.State, Table.at}

found_own :
    (client : ℕ) (o : Option Context) (c : Context) → (or_refuse ESRCH o >>= if_own client) ≡ Ok c → o ≡ Some c
found_own client None c h = absurd cc
found_own client (Some x) c h =
    elim (x.client == client) as (λ b. (if b then Ok x else Err ESRCH) ≡ Ok c → Some x ≡ Some c) [
      | true ↦ λ t. cc
      | false ↦ λ t. absurd cc
    ] h

-- a context of a client is there
pub own_there :
    (s : State) (client number : ℕ) (c : Context) → context_of s client number ≡ Ok c → at s.contexts number ≡ Some c
unfolding context_of
own_there s client number c h = found_own client (at s.contexts number) c h
