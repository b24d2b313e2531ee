-- The frame of a reply as it is read.
use Rattle.std.proofs.Common.{[], ◌<◌, ◌^◌, ◌∙◌, ◌≡◌, ◌⊎◌, ap, append-nil, Err, inl, inr, length, List, None, Ok}
use Rattle.std.proofs.Common.{Option, option_map, refl, Result, Some, subst, sym, true, ℕ}
use Rattle.krs_types.specs.declared.{ask.Answer.Answer, errno.Errno.Errno, shape.Shape.Shape}
use Rattle.krs_wire.specs.Faulting.{GivesRead}
use Rattle.krs_wire.specs.{Reply.{Finds, Found, reply_frame, tagged}, declared.fault.WireFault.WireFault}
use Rattle.krs_remote.specs.Talking.{IsReply}
use Rattle.krs_wire.specs.declared.fault.WireFault.TheVariants as wire

-- the frame of this reply with this tag is read as it, whole
read_whole : (shape : Shape) (tag : ℕ) (bytes : List ℕ) (reply : Result Answer Errno)
    (result : Result (Option (Result Answer Errno × ℕ × ℕ)) WireFault) → tag < 256 ^ 8
    → Finds true shape bytes tagged result → IsReply shape tag bytes reply
    → GivesRead (λ o. option_map tagged o) result (Ok (Some (reply, Some tag, length bytes)))
read_whole shape tag bytes reply result fits finds is =
    subst (λ n. GivesRead (λ o. option_map tagged o) result (Ok (Some (reply, Some tag, n))))
    (sym (ap length is.0))
    (finds reply (Some tag) [] is.1 (refl, fits) (is.0 ∙ sym (append-nil (reply_frame (Some tag) reply))))

-- so something is read
pub not_none : (shape : Shape) (tag : ℕ) (bytes : List ℕ) (reply : Result Answer Errno)
    (o : Option (Result Answer Errno × ℕ × ℕ)) → o ≡ None → tag < 256 ^ 8
    → Finds true shape bytes tagged (Ok o) → IsReply shape tag bytes reply → ⊥
not_none shape tag bytes reply o none fits finds is =
    let read : ◌≡◌ {A = Result (Option Found) WireFault} (Ok (Some (reply, Some tag, length bytes)))
    (Ok (option_map tagged o)) = read_whole shape tag bytes reply (Ok o) fits finds is in
    let nothing : option_map tagged o ≡ None = ap (option_map tagged) none in
    cc

-- and memory alone can be lacking
pub only_memory : (shape : Shape) (tag : ℕ) (bytes : List ℕ) (reply : Result Answer Errno) (fault : WireFault)
    → (fault ≡ wire.Memory → ⊥) → tag < 256 ^ 8 → Finds true shape bytes tagged (Err fault)
    → IsReply shape tag bytes reply → ⊥
only_memory shape tag bytes reply fault other fits finds is =
    let read : ◌≡◌ {A = Result (Option Found) WireFault} (Ok (Some (reply, Some tag, length bytes))) (Err fault) =
    read_whole shape tag bytes reply (Err fault) fits finds is other in
    cc

differs : {a b n m : ℕ} → (a ≡ b) × (n ≡ m) → ((a ≡ b) × (n ≡ m → ⊥)) ⊎ (a ≡ b → ⊥) → ⊥
differs same (inl x) = x.1 same.1
differs same (inr x) = x same.0

-- and what is read has that tag, and takes all of the bytes
pub no_other : (shape : Shape) (tag : ℕ) (bytes : List ℕ) (reply : Result Answer Errno)
    (o : Option (Result Answer Errno × ℕ × ℕ)) (got : Result Answer Errno) (found size : ℕ)
    → o ≡ Some (got, found, size) → tag < 256 ^ 8 → Finds true shape bytes tagged (Ok o)
    → ((found ≡ tag) × (size ≡ length bytes → ⊥)) ⊎ (found ≡ tag → ⊥) → IsReply shape tag bytes reply → ⊥
no_other shape tag bytes reply o got found size some fits finds other is =
    let read : ◌≡◌ {A = Result (Option Found) WireFault} (Ok (Some (reply, Some tag, length bytes)))
    (Ok (option_map tagged o)) = read_whole shape tag bytes reply (Ok o) fits finds is in
    let whole : option_map tagged o ≡ Some (got, Some found, size) = ap (option_map tagged) some in
    let same : ◌≡◌ {A = Found} (reply, Some tag, length bytes) (got, Some found, size) = cc in
    let tags : Some tag ≡ Some found = ap (λ (x : Found). x.1) same in
    let sizes : length bytes ≡ size = ap (λ (x : Found). x.2) same in
    differs (cc, sym sizes) other
