-- However a connection runs, what was passed on is what came, frame by frame.
use Rattle.std.proofs.Common.{[], ◌++◌, ◌+◌, ◌<◌, ◌∙◌, ◌∷◌, ◌≡◌, ◌≤◌, ◌⊎◌, ap, append-nil, append_assoc, arith, Bool}
use Rattle.std.proofs.Common.{drop, false, flat_map, inl, inr, length, length-append, length-take-le, List, map, refl}
use Rattle.std.proofs.Common.{sym, take, take-append-drop, true, ℕ}
use Rattle.std.specs.List.{AllByRecursion}
use Rattle.std.proofs.lemmas.List.{Concat.flat_map-append, map-append}
use Rattle.krs_screen.specs.{Claim.voided, Counting.waiting, declared.{claim.Peer.Peer, front.Front.Front}}
use Rattle.krs_screen.specs.{declared.front.Front.TheVariants.{Crowd, Hello, Other}, Front.{front_of, le32}}
use Rattle.krs_screen.specs.{Reading.passed_of, Run.{AreFrames, asks_gone, crowded, gets_eperm, gone, Heard, IsRight}}
use Rattle.krs_screen.specs.Run.{IsRightOf, kept, Line, more, named, passed_as, refused, Told, told_as, Verdict, Way}
use Rattle.krs_screen.proofs.Growing.{front_more, IsSeated, le32_more, may_pass_more, seated, with_more}
use Rattle.std.proofs.lemmas.Grind.{common_steps}

-- ---- lists that grow at their end
pub ends : {X : Type 0} (xs : List X) → (xs ≡ []) ⊎ ((before : List X) × (x : X) × (xs ≡ before ++ x ∷ []))
ends [] = inl refl
ends (x ∷ xs) = elim (ends xs) [
  | inl none ↦ inr ([], x, ap (λ ys. x ∷ ys) none)
  | inr some ↦ inr (x ∷ some.0, some.1, ap (λ ys. x ∷ ys) some.2)
]

pub all_push : {X : Type 0} (P : X → Type 0) (xs : List X) (x : X) → AllByRecursion P xs → P x
    → AllByRecursion P (xs ++ x ∷ [])
all_push P [] x all p = (p, tt)
all_push P (y ∷ xs) x all p = (all.0, all_push P xs x all.1 p)

pub all_before : {X : Type 0} (P : X → Type 0) (xs : List X) (x : X) → AllByRecursion P (xs ++ x ∷ [])
    → AllByRecursion P xs
all_before P [] x all = tt
all_before P (y ∷ xs) x all = (all.0, all_before P xs x all.1)

pub all_last : {X : Type 0} (P : X → Type 0) (xs : List X) (x : X) → AllByRecursion P (xs ++ x ∷ []) → P x
all_last P [] x all = all.0
all_last P (y ∷ xs) x all = all_last P xs x all.1

flat_push : {X : Type 0} (f : X → List ℕ) (xs : List X) (x : X) → flat_map f (xs ++ x ∷ []) ≡ flat_map f xs ++ f x
flat_push f xs x = rw (flat_map-append f xs (x ∷ []), append-nil (f x))

flat_grown : {X : Type 0} (f : X → List ℕ) (xs : List X) (x y : X) (ys : List ℕ) → f y ≡ f x ++ ys
    → flat_map f (xs ++ y ∷ []) ≡ flat_map f (xs ++ x ∷ []) ++ ys
flat_grown f xs x y ys e = rw (flat_push f xs x, flat_push f xs y, e, append_assoc (flat_map f xs) (f x) ys)

pub length_push : {X : Type 0} (xs : List X) (x : X) → length (xs ++ x ∷ []) ≡ length xs + 1
length_push xs x = length-append xs (x ∷ [])

-- ---- frames
frames_pushed : (fs : List (List ℕ)) (f : List ℕ) (left : ℕ) → AreFrames fs 0 → length f + left ≡ 4 + le32 f 0
    → AreFrames (fs ++ f ∷ []) left
frames_pushed [] f left h e = e
frames_pushed (x ∷ []) f left h e = (omega (arith, h), e)
frames_pushed (x ∷ y ∷ fs) f left h e = (h.0, frames_pushed (y ∷ fs) f left h.1 e)

frames_grown : (fs : List (List ℕ)) (f ys : List ℕ) (left later : ℕ) → 4 ≤ length f → left ≡ length ys + later
    → AreFrames (fs ++ f ∷ []) left → AreFrames (fs ++ (f ++ ys) ∷ []) later
frames_grown [] f ys left later long parts h =
    omega (arith, h, length-append f ys, le32_more f ys 0 long, parts)
frames_grown (x ∷ []) f ys left later long parts h = (h.0, frames_grown [] f ys left later long parts h.1)
frames_grown (x ∷ y ∷ fs) f ys left later long parts h = (h.0, frames_grown (y ∷ fs) f ys left later long parts h.1)

-- ---- one way, and what went there: as it came, as it was passed on, and what of the last is still to come
pub record IsWay {X : Type 0} (sent told : X → List ℕ) (way : Way) (left : ℕ) (xs : List X) : Type 0 where
  pub came : way.came ≡ flat_map sent xs ++ way.waits
  pub passed : way.passed ≡ flat_map told xs
  pub frames : AreFrames (map sent xs) left

module _ {X : Type 0} (sent told : X → List ℕ) (way : Way) where
  pub way_more : (left : ℕ) (xs : List X) (piece : List ℕ) → IsWay sent told way left xs
      → IsWay sent told (more way piece) left xs
  way_more left xs piece w = record {
    came = rw w.came (append_assoc (flat_map sent xs) way.waits piece);
    passed = w.passed;
    frames = w.frames;
  }

  pub way_idle : (left : ℕ) (xs : List X) → IsWay sent told way left xs
      → IsWay sent told (gone way 0 way.waits) left xs
  way_idle left xs w = record { came = w.came; passed = append-nil way.passed ∙ w.passed; frames = w.frames }

  -- one more, or its beginning
  pub way_pushed : (n left : ℕ) (bytes : List ℕ) (xs : List X) (x : X) → IsWay sent told way 0 xs
      → sent x ≡ take n way.waits → told x ≡ take n bytes → drop n bytes ≡ drop n way.waits
      → length (sent x) + left ≡ 4 + le32 (sent x) 0 → IsWay sent told (gone way n bytes) left (xs ++ x ∷ [])
  way_pushed n left bytes xs x w is goes rest whole = record {
    came = w.came ∙ rw (flat_push sent xs x, is, rest, append_assoc, take-append-drop);
    passed = rw (w.passed, flat_push told xs x, goes);
    frames = rw (map-append sent xs (x ∷ [])) (frames_pushed (map sent xs) (sent x) left w.frames whole);
  }

  -- more of the last
  pub way_grown : (n left later : ℕ) (xs : List X) (x y : X) → IsWay sent told way left (xs ++ x ∷ [])
      → sent y ≡ sent x ++ take n way.waits → told y ≡ told x ++ take n way.waits → left ≡ n + later
      → n ≤ length way.waits → 4 ≤ length (sent x)
      → IsWay sent told (gone way n way.waits) later (xs ++ y ∷ [])
  way_grown n left later xs x y w is goes parts there long =
      let ys : List ℕ = take n way.waits in
      let size : length ys ≡ n = length-take-le n way.waits there in
      let before : AreFrames (map sent xs ++ sent x ∷ []) left = rw (map-append sent xs (x ∷ [])) at w.frames in
      record {
        came = w.came ∙ rw (flat_grown sent xs x y ys is, append_assoc, take-append-drop);
        passed = rw (w.passed, flat_grown told xs x y ys goes);
        frames = rw (map-append sent xs (y ∷ []), is) (frames_grown (map sent xs) (sent x) ys left later long (omega
            (arith, parts, size)) before);
      }

-- ---- which asks get EPERM, by their numbers, behind the first so many
abbrev pub numbers : ℕ → List Bool → List ℕ
numbers n [] = []
numbers n (true ∷ marks) = (n + 1) ∷ numbers (n + 1) marks
numbers n (false ∷ marks) = numbers (n + 1) marks

abbrev pub if_marked : Bool → ℕ → List ℕ
if_marked true n = n ∷ []
if_marked false n = []

pub numbers_pushed : (n : ℕ) (marks : List Bool) (m : Bool) (last : ℕ) → last ≡ n + length marks + 1
    → numbers n (marks ++ m ∷ []) ≡ numbers n marks ++ if_marked m last
numbers_pushed n [] true last e = ap (λ (k : ℕ). k ∷ []) (omega (arith, e))
numbers_pushed n [] false last e = refl
numbers_pushed n (true ∷ marks) m last e = rw (numbers_pushed (n + 1) marks m last (omega arith))
numbers_pushed n (false ∷ marks) m last e = numbers_pushed (n + 1) marks m last (omega arith)

-- the first of them is behind those
pub first_behind : (n : ℕ) (marks : List Bool) (k : ℕ) (rest : List ℕ) → numbers n marks ≡ k ∷ rest → n < k
first_behind n [] k rest e = absurd cc
first_behind n (true ∷ marks) k rest e = let h : n + 1 ≡ k = cc in omega (arith, h)
first_behind n (false ∷ marks) k rest e = let h = first_behind (n + 1) marks k rest e in omega (arith, h)

-- ---- what stays so of a line, by the asks that were heard and the replies that were told
abbrev pub ask_bytes : Heard → List ℕ
ask_bytes ask = ask.bytes

abbrev pub ask_passed : Heard → List ℕ
ask_passed ask = passed_as ask.verdict ask.bytes

abbrev pub reply_bytes : Told → List ℕ
reply_bytes reply = reply.bytes

abbrev pub reply_passed : Told → List ℕ
reply_passed reply = told_as reply.is_rewritten reply.bytes

abbrev pub marks_of : List Heard → List Bool
marks_of asks = map (λ ask. gets_eperm ask.verdict) asks

pub record IsSo (peer : Peer) (groups : List ℕ) (line : Line) (asks : List Heard) (replies : List Told) : Type 0 where
  pub asked-way : IsWay ask_bytes ask_passed line.asks line.screen.ask_left asks
  pub told-way : IsWay reply_bytes reply_passed line.replies line.screen.reply_left replies
  pub right : AllByRecursion (IsRightOf peer groups) asks
  pub marked : map (λ reply. reply.is_rewritten) replies ≡ take (length replies) (marks_of asks)
  pub asked : line.screen.asked ≡ length asks
  pub answered : line.screen.answered ≡ length replies
  pub fewer : length replies ≤ length asks
  pub queue : waiting line.screen ≡ numbers (length replies) (drop (length replies) (marks_of asks))
  pub room : length line.screen.refused ≡ 64
  pub long : AllByRecursion (λ reply. 8 ≤ length reply.bytes) replies

-- a line that a run reaches, which has heard at most so many asks
pub record IsReached (peer : Peer) (groups : List ℕ) (most : ℕ) (line : Line) : Type 0 where
  pub asks : List Heard
  pub replies : List Told
  pub so : IsSo peer groups line asks replies
  pub few : length asks ≤ most

-- it stays so where the screen keeps its counts, and the ways what went there
pub so_still : (peer : Peer) (groups : List ℕ) (line : Line) (asks : List Heard) (replies : List Told) (g a r : Bool)
    (to from : Way) → IsSo peer groups line asks replies
    → IsWay ask_bytes ask_passed to line.screen.ask_left asks
    → IsWay reply_bytes reply_passed from line.screen.reply_left replies
    → IsSo peer groups (record {
      screen = record line.screen { greeted = g; ask_fault = a; reply_fault = r };
      asks = to;
      replies = from;
    }) asks replies
so_still peer groups line asks replies g a r to from i asked told = grind (arith, common_steps)

-- what is known of an ask that has a right verdict
record IsHeard (peer : Peer) (groups bytes : List ℕ) (front : Front) (verdict : Verdict) : Type 0 where
  some : 0 < passed_of front
  long : 12 ≤ length bytes
  as_more : (ys : List ℕ) → passed_as verdict (bytes ++ ys) ≡ passed_as verdict bytes ++ ys
  right_more : (ys : List ℕ) → IsRight peer groups (bytes ++ ys) front verdict

voided_more : (bytes ys : List ℕ) (at : ℕ) → at + 4 ≤ length bytes → voided (bytes ++ ys) at ≡ voided bytes at ++ ys
unfolding voided
voided_more bytes ys at h = with_more bytes ys at 4294967295 h

heard : (peer : Peer) (groups bytes : List ℕ) (front : Front) (verdict : Verdict) → IsSeated bytes front
    → IsRight peer groups bytes front verdict → IsHeard peer groups bytes front verdict
heard peer groups bytes (Other frame) kept s r = grind (arith, common_steps)
heard peer groups bytes (Crowd frame at) (crowded place) s r = grind (arith, common_steps, voided_more)
heard peer groups bytes (Hello at count) kept s r = grind (arith, common_steps, may_pass_more)
heard peer groups bytes (Hello at count) (refused place) s r = grind (arith, common_steps, voided_more, may_pass_more)
heard peer groups bytes front verdict s r = absurd r

longer : Heard → List ℕ → Heard
longer ask ys = record { bytes = ask.bytes ++ ys; is_named = ask.is_named; verdict = ask.verdict }

right_longer : (peer : Peer) (groups : List ℕ) (ask : Heard) (ys : List ℕ)
    → IsHeard peer (named ask.is_named groups) ask.bytes (front_of ask.bytes) ask.verdict
    → IsRightOf peer groups (longer ask ys)
unfolding longer
right_longer peer groups ask ys h = rw (front_more ask.bytes ys h.some) (h.right_more ys)

last_goes_on : (peer : Peer) (groups : List ℕ) (line : Line) (before : List Heard) (ask : Heard)
    (replies : List Told) (n later : ℕ)
    → line.screen.ask_left ≡ n + later → n ≤ length line.asks.waits → IsSo peer groups line (before ++ ask ∷ []) replies
    → IsSo peer groups (asks_gone line (n, (line.asks.waits, record line.screen { ask_left = later })))
    (before ++ longer ask (take n line.asks.waits) ∷ []) replies
unfolding longer
last_goes_on peer groups line before ask replies n later parts there i =
    let ys : List ℕ = take n line.asks.waits in
    let ask' : Heard = longer ask ys in
    let is : IsRightOf peer groups ask = all_last (IsRightOf peer groups) before ask i.right in
    let h = heard peer (named ask.is_named groups) ask.bytes (front_of ask.bytes) ask.verdict (seated ask.bytes) is in
    let same : marks_of (before ++ ask' ∷ []) ≡ marks_of (before ++ ask ∷ []) =
    map-append (λ (a : Heard). gets_eperm a.verdict) before (ask' ∷ [])
    ∙ sym (map-append (λ (a : Heard). gets_eperm a.verdict) before (ask ∷ [])) in
    let count : length (before ++ ask' ∷ []) ≡ length (before ++ ask ∷ []) = length_push before ask'
    ∙ sym (length_push before ask) in record {
      asked-way = way_grown ask_bytes ask_passed line.asks n line.screen.ask_left later before ask ask' i.asked-way refl
          (h.as_more ys) parts there (omega (arith, h.long));
      told-way = i.told-way;
      right = all_push (IsRightOf peer groups) before ask' (all_before (IsRightOf peer groups) before ask i.right)
          (right_longer peer groups ask ys h);
      marked = rw same i.marked;
      asked = i.asked ∙ sym count;
      answered = i.answered;
      fewer = omega (arith, i.fewer, count);
      queue = rw same i.queue;
      room = i.room;
      long = i.long;
    }

pub asks_go_on : (peer : Peer) (groups : List ℕ) (line : Line) (asks : List Heard) (replies : List Told) (n later : ℕ)
    → line.screen.ask_left ≡ n + later → n ≤ length line.asks.waits → 0 < line.screen.ask_left
    → IsSo peer groups line asks replies → IsReached peer groups (length asks + 1)
    (asks_gone line (n, (line.asks.waits, record line.screen { ask_left = later })))
asks_go_on peer groups line asks replies n later parts there some i =
    elim (ends asks) [
      | inl none ↦
          grind (arith, common_steps)
      | inr last ↦
          let asks' : List Heard = last.0 ++ longer last.1 (take n line.asks.waits) ∷ [] in
          let i' : IsSo peer groups line (last.0 ++ last.1 ∷ []) replies = rw last.2 at i in
          let so = last_goes_on peer groups line last.0 last.1 replies n later parts there i' in
          record { asks = asks'; replies = replies; so = so; few = omega (arith, so.asked, i.asked) }
    ]
