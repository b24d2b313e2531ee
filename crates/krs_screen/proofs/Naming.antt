-- A peer's groups count for HELLOs alone.
use Rattle.std.proofs.Common.{◌≡◌, false, List, min, nat_lt, refl, ℕ}
use Rattle.krs_screen.specs.declared.{claim.Peer.Peer, counting.Screen.Screen, front.Front.{Front, TheVariants.Crowd}}
use Rattle.krs_screen.specs.{declared.front.Front.TheVariants.{Fault, Hello, Other, Part}, Front.{front_of, is_hello}}
use Rattle.krs_screen.specs.Step.{ask_step, front_step}
use Rattle.std.proofs.Common.{arith}
use Rattle.std.proofs.lemmas.Grind.{common_steps}

same_front : (peer : Peer) (groups others : List ℕ) (s : Screen) (bytes : List ℕ) (front : Front)
    → is_hello front ≡ false
    → front_step peer groups s bytes front ≡ front_step peer others s bytes front
same_front peer groups others s bytes Part isnt = refl
same_front peer groups others s bytes Fault isnt = refl
same_front peer groups others s bytes (Other frame) isnt = refl
same_front peer groups others s bytes (Crowd frame at) isnt = refl
same_front peer groups others s bytes (Hello at count) isnt = absurd cc

pub same_step : (peer : Peer) (groups others : List ℕ) (s : Screen) (bytes : List ℕ) → is_hello (front_of bytes) ≡ false
    → ask_step peer groups s bytes ≡ ask_step peer others s bytes
unfolding ask_step
same_step peer groups others s bytes isnt = grind (arith, common_steps, nat_lt, min, same_front)
