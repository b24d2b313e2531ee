-- How frames go on: with the next frame, and with the next piece.
use Rattle.std.proofs.Common.{[], ◌++◌, ◌+◌, ◌-◌, ◌<◌, ◌∙◌, ◌∷◌, ◌≡◌, ◌≤◌, ap, append-nil, arith, Bool, cond, drop}
use Rattle.std.proofs.Common.{drop-drop, drop_at, Err, false, le-ltb, length, length-append, length-drop, List, ltb}
use Rattle.std.proofs.Common.{ltb-false, None, Ok, Option, refl, Result, Some, subst, suc, sym, take, true, w32, zero}
use Rattle.std.proofs.Common.{ℕ}
use Rattle.std.specs.Int.{from_le_bytes}
use Rattle.std.proofs.lemmas.List.{drop-append-le, take-append-le}
use Rattle.krs_wire.specs.{Faulting.after, Feeding.{end_of, Feeds, GoesOn, Refuses}}
use Rattle.krs_wire.specs.Frame.{bad, End, framed_of, Frames, front_by, front_in, front_of, is_bad_length, rest}
use Rattle.krs_wire.specs.declared.{fault.WireFault.{WireFault, TheVariants.{Memory}}, framed.Framed.Framed}
use Rattle.std.proofs.lemmas.Grind.{common_steps}

pub suffix : (m n : ℕ) (xs : List ℕ) → m + n ≤ length xs → drop n (drop m xs)
    ≡ drop (length xs - length (drop n (drop m xs))) xs
suffix m n xs fits = grind (arith, common_steps, drop-drop, length-drop)

-- behind the front of a list, counted from the end
pub past_front : (front piece : List ℕ) (count left : ℕ) → left + count ≡ length (front ++ piece)
    → left ≤ length piece → drop (length piece - left) piece ≡ drop count (front ++ piece)
past_front front piece count left parts short =
    let more : ℕ = length piece - left in
    let is : length front + more ≡ count = omega (arith, length-append front piece, parts, short) in
    sym (ap (λ (xs : List ℕ). drop more xs) (drop_at front piece (length front) refl))
    ∙ (drop-drop more (length front) (front ++ piece) ∙ ap (λ (n : ℕ). drop n (front ++ piece)) is)

-- what the frames of the rest say of the whole
abbrev pub Continues : List ℕ → List Framed → List ℕ → Type 0
Continues bytes frames left =
    (more : List Framed) (end : End) → Frames left more end → Frames bytes (frames ++ more) end

pub continues_end : (bytes left : List ℕ) (frames : List Framed) (end : End) → Frames left [] end
    → Continues bytes frames left → Frames bytes frames end
continues_end bytes left frames end f so_far =
    subst (λ (x : List Framed). Frames bytes x end) (append-nil frames) (so_far [] end f)

-- ---- the front of a longer stream
not_first : {A : Type 0} (b : Bool) (x y z : A) → (x ≡ z → ⊥) → cond b x y ≡ z → (b ≡ false) × (y ≡ z)
not_first true x y z other e = absurd (other e)
not_first false x y z other e = (refl, e)

abbrev reply : Framed → Result Framed WireFault
reply framed = Ok framed

abbrev found : Framed × List ℕ → Result (Option (Framed × List ℕ)) WireFault
found x = Ok (Some x)

found_is : (x y : Framed × List ℕ) → found x ≡ found y → x ≡ y
found_is x y e = cc

asked : (left more : List ℕ) (framed : Framed) (r : Result Framed WireFault)
    → after {B = Option (Framed × List ℕ)} (λ a. Ok (Some (a, left))) r ≡ Ok (Some (framed, more))
    → (r ≡ Ok framed) × (left ≡ more)
asked left more framed (Ok a) e = grind (arith, common_steps, found_is)
asked left more framed (Err f) e = absurd cc

pub record IsFront (n : ℕ) (bytes : List ℕ) (framed : Framed) (more : List ℕ) : Type 0 where
  pub good : is_bad_length n ≡ false
  pub whole : n ≤ length bytes
  pub says : framed_of (take n bytes) ≡ Ok framed
  pub left : drop n bytes ≡ more

pub in_parts : (n : ℕ) (bytes : List ℕ) (framed : Framed) (more : List ℕ)
    → front_in n bytes ≡ Ok (Some (framed, more)) → IsFront n bytes framed more
in_parts n bytes framed more e = grind (arith, common_steps, not_first, ltb, asked, ltb-false)

pub in_made : (n : ℕ) (bytes : List ℕ) (framed : Framed) (more : List ℕ) → IsFront n bytes framed more
    → front_in n bytes ≡ Ok (Some (framed, more))
in_made n bytes framed more h = grind (arith, common_steps, ltb, le-ltb)

in_more : (n : ℕ) (bytes : List ℕ) (framed : Framed) (more x : List ℕ) → IsFront n bytes framed more
    → IsFront n (bytes ++ x) framed (more ++ x)
in_more n bytes framed more x h = grind (arith, common_steps, length-append, take-append-le, drop-append-le)

front_test : (b : Bool) (n : ℕ) (bytes : List ℕ) (framed : Framed) (more : List ℕ)
    → front_by (cond b None (Some (n, bytes))) ≡ Ok (Some (framed, more))
    → (b ≡ false) × (front_in n bytes ≡ Ok (Some (framed, more)))
front_test true n bytes framed more e = absurd cc
front_test false n bytes framed more e = (refl, e)

front_parts : (bytes : List ℕ) (framed : Framed) (more : List ℕ) → front_of bytes ≡ Ok (Some (framed, more))
    → (4 ≤ length bytes) × IsFront (from_le_bytes w32 (take 4 bytes)) (drop 4 bytes) framed more
unfolding front_of
front_parts bytes framed more e = grind (arith, common_steps, front_test, ltb, w32, ltb-false, in_parts)

front_made : (bytes : List ℕ) (framed : Framed) (more : List ℕ) → 4 ≤ length bytes
    → IsFront (from_le_bytes w32 (take 4 bytes)) (drop 4 bytes) framed more
    → front_of bytes ≡ Ok (Some (framed, more))
unfolding front_of
front_made bytes framed more long h = grind (arith, common_steps, ltb, le-ltb, in_made)

pub front_more : (bytes : List ℕ) (framed : Framed) (more x : List ℕ) → front_of bytes ≡ Ok (Some (framed, more))
    → front_of (bytes ++ x) ≡ Ok (Some (framed, more ++ x))
front_more bytes framed more x e =
    let h = front_parts bytes framed more e in
    let long = h.0 in
    let same : from_le_bytes w32 (take 4 (bytes ++ x)) ≡ from_le_bytes w32 (take 4 bytes) =
    ap (from_le_bytes w32) (take-append-le 4 bytes x long) in
    let left : drop 4 (bytes ++ x) ≡ drop 4 bytes ++ x = drop-append-le 4 bytes x long in
    let P : ℕ → List ℕ → Type 0 = λ n b. IsFront n b framed (more ++ x) in
    let h2 = in_more _ _ framed more x h.1 in
    front_made (bytes ++ x) framed (more ++ x) (omega (arith, length-append bytes x, long))
    (subst (λ (n : ℕ). P n (drop 4 (bytes ++ x))) (sym same)
    (subst (λ (b : List ℕ). P (from_le_bytes w32 (take 4 bytes)) b) (sym left) h2))

pub front_shorter : (bytes : List ℕ) (framed : Framed) (more : List ℕ) → front_of bytes ≡ Ok (Some (framed, more))
    → length more < length bytes
front_shorter bytes framed more e = grind (arith, common_steps, front_parts, length-drop, w32)

-- ---- pieces
pub fed : (left piece : List ℕ) (frames : List Framed) (end : End) → Frames (left ++ piece) frames end
    → (before : List ℕ) (earlier : List Framed) → Frames before earlier (rest left)
    → Frames (before ++ piece) (earlier ++ frames) end
fed left piece frames end f before [] h = subst (λ (b : List ℕ). Frames (b ++ piece) frames end) h.1 f
fed left piece frames end f before (framed ∷ earlier) h =
    (h.0 ++ piece, front_more before framed h.0 piece h.1, fed left piece frames end f h.0 earlier h.2)

-- each stream has frames and an end
abbrev Ends : List ℕ → Type 0
Ends bytes = (frames : List Framed) × (end : End) × Frames bytes frames end

ends_at : (bytes : List ℕ) → ((b : List ℕ) → length b < length bytes → Ends b)
    → (r : Result (Option (Framed × List ℕ)) WireFault) → front_of bytes ≡ r → Ends bytes
ends_at bytes shorter (Ok None) e = ([], rest bytes, (e, refl))
ends_at bytes shorter (Ok (Some found)) e =
    let others = shorter found.1 (front_shorter bytes found.0 found.1 e) in
    (found.0 ∷ others.0, others.1, (found.1, e, others.2))
ends_at bytes shorter (Err fault) e = ([], bad fault, e)

ends_in : (fuel : ℕ) (bytes : List ℕ) → length bytes < fuel → Ends bytes
ends_in zero bytes lt = absurd (omega (arith, lt))
ends_in (suc fuel) bytes lt =
    ends_at bytes (λ b below. ends_in fuel b (omega (arith, below, lt))) (front_of bytes) refl

pub total : (bytes : List ℕ) → (frames : List Framed) × (end : End) × Frames bytes frames end
total bytes = ends_in (suc (length bytes)) bytes (omega arith)

pub goes_on : (left piece : List ℕ) → GoesOn (rest left) piece
goes_on left piece before earlier h =
    let all = total (left ++ piece) in
    (all.0, all.1, fed left piece all.0 all.1 all.2 before earlier h)

-- ---- a feed
is_unfailed : (old : End) (fault : Option WireFault) (left : List ℕ) → old ≡ end_of fault left → fault ≡ None
    → old ≡ rest left
is_unfailed old fault left e none = e ∙ ap (λ (f : Option WireFault). end_of f left) none

pub feeds : (old new : End) (fault : Option WireFault) (left piece : List ℕ) (frames : List Framed)
    → old ≡ end_of fault left → fault ≡ None → Frames (left ++ piece) frames new → Feeds old piece frames new
feeds old new fault left piece frames e none f = grind (arith, common_steps, is_unfailed, fed)

pub refuses : (old : End) (fault : Option WireFault) (left piece : List ℕ) (why : WireFault) → old ≡ end_of fault left
    → fault ≡ None → ((why ≡ Memory → ⊥) → Frames (left ++ piece) [] (bad why)) → Refuses old piece why
refuses old fault left piece why e none f =
    let P : End → Type 0 = λ x. Refuses x piece why in
    subst P (sym (is_unfailed old fault left e none)) (
      (λ other. fed left piece [] (bad why) (f other)),
      goes_on left piece,
    )

pub is_nothing : {A : Type 0} (xs : List A) → length xs ≡ 0 → xs ≡ []
is_nothing [] e = refl
is_nothing (x ∷ xs) e = absurd (omega (arith, e))

-- ---- one cut
pub cut_again : (bytes : List ℕ) (fs gs : List Framed) (d e : End) → Frames bytes fs d → Frames bytes gs e
    → (fs ≡ gs) × (d ≡ e)
cut_again bytes [] [] (rest l) (rest m) h k = (refl, ap rest (h.1 ∙ sym k.1))
cut_again bytes [] [] (rest l) (bad f) h k = let same = sym h.0 ∙ k in absurd cc
cut_again bytes [] [] (bad f) (rest m) h k = let same = sym k.0 ∙ h in absurd cc
cut_again bytes [] [] (bad f) (bad g) h k = let same = sym h ∙ k in (refl, cc)
cut_again bytes [] (g ∷ gs) (rest l) e h k = let same = sym h.0 ∙ k.1 in absurd cc
cut_again bytes [] (g ∷ gs) (bad f) e h k = let same = sym h ∙ k.1 in absurd cc
cut_again bytes (f ∷ fs) [] d (rest m) h k = let same = sym k.0 ∙ h.1 in absurd cc
cut_again bytes (f ∷ fs) [] d (bad g) h k = let same = sym k ∙ h.1 in absurd cc
cut_again bytes (f ∷ fs) (g ∷ gs) d e h k =
    let same = found_is (f, h.0) (g, k.0) (sym h.1 ∙ k.1) in
    let later =
    cut_again h.0 fs gs d e h.2 (subst (λ (b : List ℕ). Frames b gs e)
    (sym (ap (λ (x : Framed × List ℕ). x.1) same)) k.2) in
    let first : f ≡ g = ap (λ (x : Framed × List ℕ). x.0) same in
    (ap (λ (x : Framed). x ∷ fs) first ∙ ap (λ (xs : List Framed). g ∷ xs) later.0, later.1)
