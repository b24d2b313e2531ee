-- What a daemon reads from all that was passed on.
use Rattle.std.proofs.Common.{[], ◌*◌, ◌++◌, ◌+◌, ◌<◌, ◌^◌, ◌∙◌, ◌∷◌, ◌≡◌, ◌≤◌, ap, arith, Bool, drop, drop_at, false}
use Rattle.std.proofs.Common.{flat_map, get_or-append-add, length, length-append, List, map, Ok, refl, slice_index}
use Rattle.std.proofs.Common.{Some, subst, sym, true, ℕ}
use Rattle.std.specs.List.{AllByRecursion}
use Rattle.std.proofs.lemmas.{Bool.{Decides.nat_tests, or_cases, or_left}, Nat.from_le_bytes-to_le_bytes_4}
use Rattle.krs_types.specs.declared.{ask.Op.TheVariants.Hello as AsksHello, caller.Caller.Caller}
use Rattle.krs_wire.specs.{declared.framed.Framed.Framed, Encoding.{ask_frame, ask_text}, Frame.{End, Frames}}
use Rattle.krs_wire.specs.Frame.{front_of as read_front}
use Rattle.krs_wire.proofs.AskLemmas.{front_takes}
use Rattle.krs_screen.specs.{Claim.{is_group, may_name, voided}, declared.{claim.Peer.Peer, front.Front.Front}}
use Rattle.krs_screen.specs.{declared.front.Front.TheVariants.{Crowd, Hello, Other}, Front.{front_of, le32}}
use Rattle.krs_screen.specs.{Reading.{Harmless, nobody, own, passed_of, trusted}, Run.{AreFrames, crowded}}
use Rattle.krs_screen.specs.Run.{EachHelloOfARunIsHarmless, Heard, IsRight, IsRightOf, kept, named, passed_as, refused}
use Rattle.krs_screen.specs.{Run.{Verdict}, Step.Safe}
use Rattle.krs_screen.proofs.{Answering.faithful, Claiming.claims, Growing.{front_more, IsSeated, le32_more}}
use Rattle.krs_screen.proofs.{Growing.{may_pass_more, seated}, Staying.{crowd_stays, hello_stays}, Voiding.le32_before}
use Rattle.krs_screen.proofs.Voiding.{le32_voided, length_voided, void_is_void}
use Rattle.std.proofs.lemmas.Grind.{common_steps}

-- ---- an ask as it was passed on
-- with whatever comes behind it, it is safe; and it is as long as it was, and says so
record IsSafe (peer : Peer) (groups bytes passed : List ℕ) : Type 0 where
  safe : (ys : List ℕ) → Safe peer groups (passed ++ ys) (front_of (passed ++ ys))
  size : length passed ≡ length bytes
  says : le32 passed 0 ≡ le32 bytes 0
  head : 4 ≤ length bytes

module _ (peer : Peer) (groups bytes : List ℕ) where
  -- what stands at the front of what was passed, whatever comes behind it
  with_front : (passed : List ℕ) (front : Front) → front_of passed ≡ front → 0 < passed_of front
      → ((ys : List ℕ) → Safe peer groups (passed ++ ys) front) → (ys : List ℕ)
      → Safe peer groups (passed ++ ys) (front_of (passed ++ ys))
  with_front passed front is some safe ys =
      let more : front_of (passed ++ ys) ≡ front_of passed =
      front_more passed ys (subst (λ f. 0 < passed_of f) (sym is) some) in
      subst (λ f. Safe peer groups (passed ++ ys) f) (sym (more ∙ is)) (safe ys)

  as_passed : (front : Front) (verdict : Verdict) → front_of bytes ≡ front → IsSeated bytes front
      → IsRight peer groups bytes front verdict → IsSafe peer groups bytes (passed_as verdict bytes)
  as_passed (Other frame) kept is s r = record {
    safe = with_front bytes (Other frame) is (omega arith) (λ ys. tt);
    size = refl;
    says = refl;
    head = omega (arith, s.sits.0);
  }
  as_passed (Crowd frame at) (crowded place) is s r =
      let within : at + 4 ≤ length bytes = omega (arith, s.sits.1) in
      let here : at ≤ length bytes = omega (arith, within) in
      let size : length (voided bytes at) ≡ length bytes = length_voided bytes at within in
      rw r (record {
        safe = with_front (voided bytes at) (Crowd frame at) (crowd_stays bytes frame at is s.sits.1 ∙ is) (omega arith)
            (λ ys. le32_more (voided bytes at) ys at (omega (arith, size, within)) ∙ le32_voided bytes at here);
        size = size;
        says = le32_before bytes at 0 (omega (arith, s.sits.0)) here;
        head = omega (arith, within);
      })
  as_passed (Hello at count) kept is s r = record {
    safe = with_front bytes (Hello at count) is (omega arith) (λ ys.
        or_cases _ _ (may_pass_more peer groups bytes ys at count s.sits.1 ∙ r));
    size = refl;
    says = refl;
    head = omega (arith, s.sits.1);
  }
  as_passed (Hello at count) (refused place) is s r =
      let there : at + 12 + 4 * count ≤ length bytes = s.sits.1 in
      let within : at + 4 ≤ length bytes = omega (arith, there) in
      let here : at ≤ length bytes = omega (arith, there) in
      let size : length (voided bytes at) ≡ length bytes = length_voided bytes at within in
      let void = or_left _ (may_name peer groups (voided bytes at) at count) (void_is_void bytes at count here) in
      let long : at + 12 + 4 * count ≤ length (voided bytes at) = omega (arith, size, there) in
      rw r.0 (record {
        safe = with_front (voided bytes at) (Hello at count) (hello_stays bytes at count is (omega
            (arith, there)) ∙ is) (omega arith) (λ ys. or_cases _ _ (may_pass_more peer groups (voided
            bytes at) ys at count long ∙ void));
        size = size;
        says = le32_before bytes at 0 (omega (arith, s.sits.0)) here;
        head = omega (arith, within);
      })
  as_passed front verdict is s r = absurd r

-- ---- who isn't known to be in a group may name less
group_named : (peer : Peer) (groups : List ℕ) (gid : ℕ) → is_group peer [] gid ≡ true → is_group peer groups gid ≡ true
unfolding is_group
group_named peer groups gid e = grind (arith, nat_tests)

harmless_named : (peer : Peer) (groups : List ℕ) (is_named : Bool) (caller : Caller)
    → Harmless peer (named is_named groups) caller → Harmless peer groups caller
harmless_named peer groups true caller h = h
harmless_named peer groups false caller (nobody e) = nobody e
harmless_named peer groups false caller (trusted e) = trusted e
harmless_named peer groups false caller (own o) = grind (arith, common_steps, group_named, slice_index)

-- ---- all that was passed on
-- a frame that is read takes as many bytes as its first number says
record IsTaken (bytes more : List ℕ) : Type 0 where
  frame : List ℕ
  whole : bytes ≡ frame ++ more
  long : length frame ≡ 4 + le32 bytes 0

read_taken : (bytes : List ℕ) (framed : Framed) (more : List ℕ) → ((i : ℕ) → slice_index bytes i < 256)
    → read_front bytes ≡ Ok (Some (framed, more)) → IsTaken bytes more
unfolding le32
read_taken bytes framed more fits is =
    let p = front_takes bytes framed more fits is in
    let frame : List ℕ = ask_frame framed.tag framed.ask in
    let n : ℕ = length (ask_text framed.tag framed.ask) in
    let small : n < 2 ^ 32 = omega (arith, p.1.size) in
    let says : le32 (frame ++ more) 0 ≡ n = from_le_bytes-to_le_bytes_4 n small in
    let size : length frame ≡ 4 + n = omega arith in
    record {
      frame = frame;
      whole = p.0;
      long = size ∙ ap (λ (k : ℕ). 4 + k) (sym says ∙ ap (λ (zs : List ℕ). le32 zs 0) (sym p.0));
    }

-- behind the first of two asks and what is passed of it
rest_is : (passed rest frame more : List ℕ) → passed ++ rest ≡ frame ++ more → length frame ≡ length passed
    → more ≡ rest
rest_is passed rest frame more e size =
    sym (drop_at frame more (length passed) size) ∙ ap (λ (zs : List ℕ). drop (length passed) zs) (sym e)
    ∙ drop_at passed rest (length passed) refl

behind_fits : (front more : List ℕ) → ((i : ℕ) → slice_index (front ++ more) i < 256) → (i : ℕ)
    → slice_index more i < 256
behind_fits front more fits i = subst (λ n. n < 256) (get_or-append-add front more i 0) (fits (length front + i))

first_whole : (ask : Heard) (asks : List Heard) (left : ℕ) → AreFrames (map (λ a. a.bytes) (ask ∷ asks)) left
    → 4 + le32 ask.bytes 0 ≤ length ask.bytes + length (flat_map (λ a. passed_as a.verdict a.bytes) asks)
    → length ask.bytes ≡ 4 + le32 ask.bytes 0
first_whole ask [] left h enough = omega (arith, h, enough)
first_whole ask (next ∷ asks) left h enough = h.0

later_frames : (ask : Heard) (asks : List Heard) (left : ℕ) → AreFrames (map (λ a. a.bytes) (ask ∷ asks)) left
    → (later : ℕ) × AreFrames (map (λ a. a.bytes) asks) later
later_frames ask [] left h = (0, refl)
later_frames ask (next ∷ asks) left h = (left, h.1)

nothing_read : (framed : Framed) (more : List ℕ) → read_front [] ≡ Ok (Some (framed, more)) → ⊥
unfolding read_front
nothing_read framed more e = absurd cc

each_good : (peer : Peer) (groups : List ℕ) (asks : List Heard) (left : ℕ) (frames : List Framed) (end : End)
    (bytes : List ℕ)
    → bytes ≡ flat_map (λ ask. passed_as ask.verdict ask.bytes) asks → AreFrames (map (λ ask. ask.bytes) asks) left
    → AllByRecursion (IsRightOf peer groups) asks → ((i : ℕ) → slice_index bytes i < 256) → Frames bytes frames end
    → AllByRecursion (λ framed. (caller : Caller) → framed.ask.op ≡ AsksHello caller
    → Harmless peer groups caller) frames
each_good peer groups asks left [] end bytes parts sizes right fits is = tt
each_good peer groups [] left (framed ∷ frames) end bytes parts sizes right fits is =
    absurd (nothing_read framed is.0 (ap (λ (zs : List ℕ). read_front zs) (sym parts) ∙ is.1))
each_good peer groups (ask ∷ asks) left (framed ∷ frames) end bytes parts sizes right fits is =
    let more : List ℕ = is.0 in
    let passed : List ℕ = passed_as ask.verdict ask.bytes in
    let rest : List ℕ = flat_map (λ a. passed_as a.verdict a.bytes) asks in
    let s = as_passed peer (named ask.is_named groups) ask.bytes (front_of ask.bytes) ask.verdict refl
    (seated ask.bytes) right.0 in
    let safe : Safe peer (named ask.is_named groups) bytes (front_of bytes) =
    subst (λ zs. Safe peer (named ask.is_named groups) zs (front_of zs)) (sym parts) (s.safe rest) in
    let t = read_taken bytes framed more fits is.1 in
    let says : le32 bytes 0 ≡ le32 ask.bytes 0 =
    ap (λ (zs : List ℕ). le32 zs 0) parts ∙ le32_more passed rest 0 (omega (arith, s.size, s.head)) ∙ s.says in
    let both : length t.frame + length more ≡ length passed + length rest =
    sym (length-append t.frame more) ∙ ap (λ (zs : List ℕ). length zs) (sym t.whole ∙ parts)
    ∙ length-append passed rest in
    let enough : 4 + le32 ask.bytes 0 ≤ length ask.bytes + length rest = omega (arith, both, t.long, says, s.size) in
    let size : length t.frame ≡ length passed =
    omega (arith, t.long, says, s.size, first_whole ask asks left sizes enough) in
    let later = later_frames ask asks left sizes in (
      (λ caller op. harmless_named peer groups ask.is_named caller
          (claims peer (named ask.is_named groups) bytes framed more caller fits is.1 op safe)),
      each_good peer groups asks later.0 frames end more (rest_is passed rest t.frame more (sym parts
          ∙ t.whole) size) later.1 right.1
          (behind_fits t.frame more (λ i. subst (λ zs. slice_index zs i < 256) t.whole (fits i))) is.2,
    )

pub arrives : EachHelloOfARunIsHarmless
arrives peer groups events frames end few fits is =
    grind (arith, common_steps, each_good, faithful peer groups events few)
