-- A reply's frame is read as that reply with its tag, and what is read is that reply's frame.
use Rattle.std.proofs.Common.{[], ◌++◌, ◌+◌, ◌<◌, ◌^◌, ◌∙◌, ◌∷◌, ◌≡◌, ◌≤◌, ap, append_assoc, arith, Bool, cond, drop}
use Rattle.std.proofs.Common.{eqb, eqb-true, Err, false, find, inl, inr, is_some, IsOk, le-ltb, length, length-append}
use Rattle.std.proofs.Common.{length-take, List, ltb, ltb-false, None, Ok, Option, option_and_then, option_map, refl}
use Rattle.std.proofs.Common.{Result, Some, subst, sym, take, take-append-drop, take_at, true, w32, ℕ}
use Rattle.std.specs.Int.{to_le_bytes}
use Rattle.krs_types.specs.Errno.{number_of}
use Rattle.krs_types.specs.declared.ask.Answer.{Answer, TheVariants.{Bytes, Nothing, Number}}
use Rattle.krs_types.specs.declared.{errno.Errno.{Errno, TheVariants.EPERM}, shape.Shape.Shape}
use Rattle.krs_wire.specs.{Faulting.{after, GivesRead}, Field.{number, whole}}
use Rattle.krs_wire.specs.Reply.{accepted, answer_of, body_of, errno_of, error_of, Finds, Found, HasShape}
use Rattle.krs_wire.specs.Reply.{is_bad_reply_length, IsAtFront, IsFound, refused, reply_by, reply_frame, reply_front}
use Rattle.krs_wire.specs.{Reply.{reply_in, reply_of, status_fields, status_of}, Tag.{tag_field, tag_size, tag_text}}
use Rattle.krs_wire.specs.declared.fault.WireFault.{WireFault, TheVariants.BadLength}
use Rattle.krs_wire.proofs.CaseLemmas.{chosen, ok_body, or_false}
use Rattle.krs_wire.proofs.FieldLemmas.{both_exact, IsBytes, IsBytes-take, IsExact, nothing_exact, number_exact}
use Rattle.krs_wire.proofs.{FieldLemmas.{whole_again, whole_takes, wide32}, TagLemmas.{tag_exact, tag_length}}
use Rattle.krs_types.specs.declared.shape.Shape.TheVariants as shapes
use Rattle.std.proofs.lemmas.Grind.{common_steps}

-- each error is found by its number
error_again : (shape : Shape) (e : Errno) → reply_of shape (number_of e) [] ≡ Ok (refused e)
error_again shape EPERM = refl
error_again shape _ = refl

number_small : (e : Errno) → number_of e < 256 ^ 4
number_small EPERM = omega arith
number_small _ = omega arith

by_again : (shape : Shape) (reply : Result Answer Errno) → HasShape shape reply
    → reply_of shape (status_of reply) (body_of reply) ≡ Ok reply
by_again shape (Err e) h = error_again shape e
by_again shapes.Nothing (Ok Nothing) h = refl
by_again shapes.Number (Ok (Number n)) h = grind (arith, common_steps, whole_again, w32, number_exact, wide32)
by_again shapes.Bytes (Ok (Bytes bytes)) h = refl
by_again shapes.Nothing (Ok (Number n)) h = absurd h
by_again shapes.Nothing (Ok (Bytes bytes)) h = absurd h
by_again shapes.Number (Ok Nothing) h = absurd h
by_again shapes.Number (Ok (Bytes bytes)) h = absurd h
by_again shapes.Bytes (Ok Nothing) h = absurd h
by_again shapes.Bytes (Ok (Number n)) h = absurd h

body_small : (shape : Shape) (reply : Result Answer Errno) → HasShape shape reply → length (body_of reply) ≤ 262140
body_small shape (Err e) h = omega arith
body_small shapes.Nothing (Ok Nothing) h = omega arith
body_small shapes.Number (Ok (Number n)) h = omega arith
body_small shapes.Bytes (Ok (Bytes bytes)) h = h
body_small shapes.Nothing (Ok (Number n)) h = absurd h
body_small shapes.Nothing (Ok (Bytes bytes)) h = absurd h
body_small shapes.Number (Ok Nothing) h = absurd h
body_small shapes.Number (Ok (Bytes bytes)) h = absurd h
body_small shapes.Bytes (Ok Nothing) h = absurd h
body_small shapes.Bytes (Ok (Number n)) h = absurd h

status_small : (reply : Result Answer Errno) → status_of reply < 256 ^ 4
status_small (Ok a) = omega arith
status_small (Err e) = number_small e

status_exact : (is_tagged : Bool) → IsExact (status_fields is_tagged)
status_exact is_tagged =
    both_exact (number w32) (tag_field is_tagged) (number_exact w32 wide32) (tag_exact is_tagged)

-- what stands behind the length
abbrev text_of : Option ℕ → ℕ → List ℕ → List ℕ
text_of tag status body = (to_le_bytes w32 status ++ tag_text tag) ++ body

text_length : (is_tagged : Bool) (tag : Option ℕ) (status : ℕ) (body : List ℕ) → is_some tag ≡ is_tagged
    → length (text_of tag status body) ≡ 4 + tag_size is_tagged + length body
text_length is_tagged tag status body has = grind (arith, common_steps, length-append, w32, tag_length)

size_small : (is_tagged : Bool) → tag_size is_tagged ≤ 8
size_small true = omega arith
size_small false = omega arith

-- a reply and its tag, as what stands behind a length says them
abbrev pub Said : Type 0
Said = Result Answer Errno × Option ℕ

abbrev said : Said → Result Said WireFault
said x = Ok x

said_is : (x y : Said) → said x ≡ said y → x ≡ y
said_is x y e = cc

abbrev whole_reply : Found → Result (Option Found) WireFault
whole_reply x = Ok (Some x)

whole_reply_is : (x y : Found) → whole_reply x ≡ whole_reply y → x ≡ y
whole_reply_is x y e = cc

-- a reply that is said in so many bytes
abbrev pub sized_reply : ℕ → Said → Result (Option Found) WireFault
sized_reply n x = Ok (Some (x.0, x.1, 4 + n))

is_good_length : (is_tagged : Bool) (n : ℕ) → 4 + tag_size is_tagged ≤ n → n ≤ 262144 + tag_size is_tagged
    → is_bad_reply_length is_tagged n ≡ false
is_good_length is_tagged n low high = grind (arith, common_steps, ltb, le-ltb)

in_again : (is_tagged : Bool) (shape : Shape) (n : ℕ) (text more : List ℕ) (status : ℕ) (tag : Option ℕ) (body : List ℕ)
    (reply : Result Answer Errno) → length text ≡ n → is_bad_reply_length is_tagged n ≡ false
    → (status_fields is_tagged).read text ≡ Some ((status, tag), body) → reply_of shape status body ≡ Ok reply
    → reply_in is_tagged shape (Some (n, text ++ more)) ≡ whole_reply (reply, tag, 4 + n)
unfolding reply_in
in_again is_tagged shape n text more status tag body reply len good read says =
    grind (arith, common_steps, ltb, le-ltb, length-append, take_at)

pub reply_again : (is_tagged : Bool) (shape : Shape) (reply : Result Answer Errno) (tag : Option ℕ) (more : List ℕ)
    → HasShape shape reply → (tag_field is_tagged).Fits tag
    → reply_front is_tagged shape (reply_frame tag reply ++ more)
    ≡ Ok (Some (reply, tag, length (reply_frame tag reply)))
reply_again is_tagged shape reply tag more h fits =
    let body = body_of reply in
    let text = text_of tag (status_of reply) body in
    let n = length text in
    let small = body_small shape reply h in
    let size = size_small is_tagged in
    let len : n ≡ 4 + tag_size is_tagged + length body = text_length is_tagged tag (status_of reply) body fits.0 in
    let first = (number_exact w32 wide32).again n (text ++ more) (omega (arith, len, small, size)) in
    let second = (status_exact is_tagged).again (status_of reply, tag) body (status_small reply, fits) in
    let good = is_good_length is_tagged n (omega (arith, len)) (omega (arith, len, small)) in
    let all : length (reply_frame tag reply) ≡ 4 + n = omega (arith, length-append (to_le_bytes w32 n) text) in
    ap (λ (x : List ℕ). reply_front is_tagged shape x) (append_assoc (to_le_bytes w32 n) text more)
    ∙ ap (reply_in is_tagged shape) first
    ∙ in_again is_tagged shape n text more (status_of reply) tag body reply refl good second (by_again shape reply h)
    ∙ ap (λ (k : ℕ). whole_reply (reply, tag, k)) (sym all)

-- ---- what is read is encoded so
abbrev given : Result Answer Errno → Result (Result Answer Errno) WireFault
given r = Ok r

given_is : (a b : Result Answer Errno) → given a ≡ given b → a ≡ b
given_is a b e = cc

record ByTakes (shape : Shape) (status : ℕ) (body : List ℕ) (reply : Result Answer Errno) : Type 0 where
  status-is : status ≡ status_of reply
  body-is : body ≡ body_of reply
  has : HasShape shape reply

answer_takes : (shape : Shape) (body : List ℕ) (reply : Result Answer Errno) → IsBytes body → length body ≤ 262140
    → answer_of shape body ≡ Ok reply → ByTakes shape 0 body reply
answer_takes shapes.Nothing body reply bytes small e = grind (arith, common_steps, whole_takes, nothing_exact, ok_body)
answer_takes shapes.Number body reply bytes small e =
    let t =
    whole_takes (number w32) (number_exact w32 wide32) (λ k. accepted (Number k)) body reply bytes
    (ok_body (whole (number w32) (λ k. accepted (Number k)) body) reply e) in
    let made : ByTakes shapes.Number 0 body (accepted (Number t.0)) =
    record { status-is = refl; body-is = t.1; has = t.2 } in
    subst (λ (r : Result Answer Errno). ByTakes shapes.Number 0 body r) t.3 made
answer_takes shapes.Bytes body reply bytes small e = grind (arith, common_steps, given_is)

same_some : {X : Type 0} (a b : X) → Some a ≡ Some b → a ≡ b
same_some a b h = cc

-- what is found passes the test
find_passes : {X : Type 0} (p : X → Bool) (xs : List X) (d : X) → find p xs ≡ Some d → p d ≡ true
find_passes p [] d e = absurd cc
find_passes p (x ∷ xs) d e =
    elim (chosen (p x) _ _ _ e) [
      | inl h ↦ ap p (sym (same_some x d h.1)) ∙ h.0
      | inr h ↦ find_passes p xs d h.1
    ]

error_takes : (shape : Shape) (status : ℕ) (body : List ℕ) (o : Option Errno) (reply : Result Answer Errno)
    → IsBytes body → errno_of status ≡ o → error_of o body ≡ Ok reply → ByTakes shape status body reply
error_takes shape status body None reply bytes number e = absurd cc
error_takes shape status body (Some d) reply bytes numbered e =
    grind (arith, common_steps, whole_takes, nothing_exact, ok_body, eqb-true, find_passes, eqb)

by_takes : (shape : Shape) (status : ℕ) (body : List ℕ) (reply : Result Answer Errno) → IsBytes body
    → length body ≤ 262140 → reply_of shape status body ≡ Ok reply → ByTakes shape status body reply
by_takes shape status body reply bytes small e =
    elim (chosen (eqb status 0) _ _ _ e) [
      | inl h ↦ subst (λ (n : ℕ). ByTakes shape n body reply) (sym (eqb-true _ _ h.0))
          (answer_takes shape body reply bytes small h.1)
      | inr h ↦ error_takes shape status body (errno_of status) reply bytes refl h.1
    ]

after_reply : (r : Result (Result Answer Errno) WireFault) (tag : Option ℕ) (x : Said)
    → after (λ reply. said (reply, tag)) r ≡ Ok x → (r ≡ Ok x.0) × (tag ≡ x.1)
after_reply (Ok reply) tag x e = grind (arith, common_steps, said_is)
after_reply (Err fault) tag x e = absurd cc

status_some : (shape : Shape) (o : Option ((ℕ × Option ℕ) × List ℕ)) (x : Said) → reply_by shape o ≡ Ok x
    → (h : (ℕ × Option ℕ) × List ℕ) × (o ≡ Some h) × (reply_of shape h.0.0 h.1 ≡ Ok x.0) × (h.0.1 ≡ x.1)
status_some shape None x e = absurd cc
status_some shape (Some h) x e =
    let a = after_reply (reply_of shape h.0.0 h.1) h.0.1 x e in (h, refl, a.0, a.1)

record InTakes (is_tagged : Bool) (shape : Shape) (found : Found) (x : ℕ × List ℕ) : Type 0 where
  good : is_bad_reply_length is_tagged x.0 ≡ false
  long : ltb (length x.1) x.0 ≡ false
  by : reply_by shape ((status_fields is_tagged).read (take x.0 x.1)) ≡ said (found.0, found.1)
  len-is : 4 + x.0 ≡ found.2

not_first : {A : Type 0} (b : Bool) (x y z : A) → (x ≡ z → ⊥) → cond b x y ≡ z → (b ≡ false) × (y ≡ z)
not_first true x y z other e = absurd (other e)
not_first false x y z other e = (refl, e)

after_whole : (r : Result Said WireFault) (n : ℕ) (found : Found) → after (sized_reply n) r ≡ whole_reply found
    → (r ≡ said (found.0, found.1)) × (4 + n ≡ found.2)
after_whole (Ok a) n found e = grind (arith, common_steps, whole_reply_is)
after_whole (Err f) n found e = absurd cc

in_some : (is_tagged : Bool) (shape : Shape) (o : Option (ℕ × List ℕ)) (found : Found)
    → reply_in is_tagged shape o ≡ whole_reply found
    → (x : ℕ × List ℕ) × (o ≡ Some x) × InTakes is_tagged shape found x
unfolding reply_in
in_some is_tagged shape None found e = absurd cc
in_some is_tagged shape (Some x) found e =
    let by = reply_by shape ((status_fields is_tagged).read (take x.0 x.1)) in
    let a =
    not_first (is_bad_reply_length is_tagged x.0) (Err BadLength) (cond (ltb (length x.1) x.0) (Ok None)
    (after (sized_reply x.0) by)) (whole_reply found) (λ h. cc) e in
    let b =
    not_first (ltb (length x.1) x.0) (Ok None) (after (sized_reply x.0) by) (whole_reply found) (λ h. cc) a.1 in
    let d = after_whole by x.0 found b.1 in
    (x, refl, record { good = a.0; long = b.0; by = d.0; len-is = d.1 })

-- what is found is the frame of its reply with its tag, and has a tag where frames have one
pub record FoundTakes (is_tagged : Bool) (shape : Shape) (bytes : List ℕ) (found : Found) : Type 0 where
  pub front : IsAtFront shape bytes found
  pub has_tag : is_some found.1 ≡ is_tagged

pub reply_takes : (is_tagged : Bool) (shape : Shape) (bytes : List ℕ) (found : Found) → IsBytes bytes
    → reply_front is_tagged shape bytes ≡ Ok (Some found) → FoundTakes is_tagged shape bytes found
reply_takes is_tagged shape bytes found fits e =
    let reply = found.0 in
    let tag = found.1 in
    let x = in_some is_tagged shape ((number w32).read bytes) found e in
    let n = x.0.0 in
    let r = x.0.1 in
    let t = (number_exact w32 wide32).takes bytes n r fits x.1 in
    let f = x.2 in
    let s = status_some shape ((status_fields is_tagged).read (take n r)) (reply, tag) f.by in
    let status = s.0.0.0 in
    let body = s.0.1 in
    let frame_fits = IsBytes-take n r t.more_fits in
    let u = (status_exact is_tagged).takes (take n r) (status, s.0.0.1) body frame_fits s.1 in
    let tag-is : s.0.0.1 ≡ tag = s.3 in
    let has : is_some tag ≡ is_tagged = subst (λ (o : Option ℕ). is_some o ≡ is_tagged) tag-is u.fits.1.0 in
    let whole-n : n ≤ length r = ltb-false _ _ f.long in
    let size : n ≤ 262144 + tag_size is_tagged =
    ltb-false _ n (or_false (ltb n (4 + tag_size is_tagged)) (ltb (262144 + tag_size is_tagged) n) f.good) in
    let frame-len : length (take n r) ≡ n = omega (arith, length-take n r, whole-n) in
    let parts : take n r ≡ text_of tag status body =
    u.parts ∙ ap (λ (o : Option ℕ). text_of o status body) tag-is in
    let body-len : 4 + tag_size is_tagged + length body ≡ n =
    omega (arith, frame-len, ap (λ (y : List ℕ). length y) parts, text_length is_tagged tag status body has) in
    let b = by_takes shape status body reply u.more_fits (omega (arith, body-len, size)) s.2 in
    let frame : take n r ≡ text_of tag (status_of reply) (body_of reply) =
    parts ∙ ap (λ (k : ℕ). text_of tag k body) b.status-is
    ∙ ap (λ (y : List ℕ). text_of tag (status_of reply) y) b.body-is in
    let n-is : n ≡ length (text_of tag (status_of reply) (body_of reply)) =
    sym frame-len ∙ ap (λ (y : List ℕ). length y) frame in
    let front : bytes ≡ (to_le_bytes w32 n ++ take n r) ++ drop n r =
    t.parts ∙ ap (λ (y : List ℕ). to_le_bytes w32 n ++ y) (sym (take-append-drop n r))
    ∙ sym (append_assoc (to_le_bytes w32 n) (take n r) (drop n r)) in
    let front-len : length (to_le_bytes w32 n ++ take n r) ≡ found.2 =
    omega (arith, length-append (to_le_bytes w32 n) (take n r), frame-len, f.len-is) in
    let taken : take found.2 bytes ≡ to_le_bytes w32 n ++ take n r =
    ap (λ (y : List ℕ). take found.2 y) front ∙ take_at (to_le_bytes w32 n ++ take n r) (drop n r) found.2 front-len in
    record {
      front = (
        taken ∙ ap (λ (y : List ℕ). to_le_bytes w32 n ++ y) frame
            ∙ ap (λ (k : ℕ). to_le_bytes w32 k ++ text_of tag (status_of reply) (body_of reply)) n-is,
        b.has,
      );
      has_tag = has;
    }

-- ---- what the decoder answers
-- what is found in frames without a tag has none
pub found_untagged : (shape : Shape) (bytes : List ℕ) (found : Found) → IsBytes bytes
    → reply_front false shape bytes ≡ Ok (Some found)
    → reply_front false shape bytes ≡ Ok (Some (found.0, None, found.2))
found_untagged shape bytes found fits e =
    e ∙ ap (λ (tag : Option ℕ). whole_reply (found.0, tag, found.2))
    (none_is found.1 (reply_takes false shape bytes found fits e).has_tag)
  where
    none_is : (o : Option ℕ) → is_some o ≡ false → o ≡ None
    none_is None h = refl
    none_is (Some n) h = absurd (cc h)

-- and in frames with a tag it has one
pub found_tagged : (shape : Shape) (bytes : List ℕ) (reply : Result Answer Errno) (size : ℕ) → IsBytes bytes
    → reply_front true shape bytes ≡ Ok (Some (reply, None, size)) → ⊥
found_tagged shape bytes reply size fits e =
    let none : is_some {T = ℕ} None ≡ true = (reply_takes true shape bytes (reply, None, size) fits e).has_tag in
    absurd (cc none)

module _ {X : Type 0} (is_tagged : Bool) (shape : Shape) (bytes : List ℕ) (view : X → Found)
    (r : Result (Option X) WireFault) (exact : GivesRead (λ o. option_map view o) r (reply_front is_tagged shape bytes))
  where
    pub only_by : Finds is_tagged shape bytes view r
    only_by reply tag more has fits e =
        let again : reply_front is_tagged shape bytes ≡ Ok (Some (reply, tag, length (reply_frame tag reply))) =
        ap (reply_front is_tagged shape) e ∙ reply_again is_tagged shape reply tag more has fits in
        subst (λ (x : Result (Option Found) WireFault). GivesRead (λ o. option_map view o) r x) again exact

-- a status, a tag and a body are read one after the other, and say a reply where status and body do
pub said_ok : (is_tagged : Bool) (shape : Shape) (frame : List ℕ) (status : ℕ) (more : List ℕ) (tag : Option ℕ)
    (body : List ℕ) → (number w32).read frame ≡ Some (status, more) → (tag_field is_tagged).read more ≡ Some (tag, body)
    → IsOk (reply_of shape status body) → IsOk (reply_by shape ((status_fields is_tagged).read frame))
said_ok is_tagged shape frame status more tag body first second ok =
    let read : (status_fields is_tagged).read frame ≡ Some ((status, tag), body) =
    ap (option_and_then (λ (a : ℕ × List ℕ). option_and_then (λ (b : Option ℕ × List ℕ). Some ((a.0, b.0), b.1))
    ((tag_field is_tagged).read a.1))) first
    ∙ ap (option_and_then (λ (b : Option ℕ × List ℕ). Some ((status, b.0), b.1))) second in
    subst (λ (o : Option ((ℕ × Option ℕ) × List ℕ)). IsOk (reply_by shape o)) (sym read)
    (after_ok (reply_of shape status body) ok)
  where
    after_ok : (r : Result (Result Answer Errno) WireFault) → IsOk r → IsOk (after (λ x. said (x, tag)) r)
    after_ok (Ok x) h = refl
    after_ok (Err fault) h = absurd (cc h)

-- a whole reply stands at the front where what stands behind its length says one
pub found_after : (n : ℕ) (r : Result Said WireFault) → IsOk r → IsFound (after (sized_reply n) r)
found_after n (Ok said) ok = tt
found_after n (Err fault) ok = absurd cc

pub found_in : (is_tagged : Bool) (shape : Shape) (read : Option (ℕ × List ℕ)) (n : ℕ) (bytes : List ℕ)
    → read ≡ Some (n, bytes) → 4 + tag_size is_tagged ≤ n → n ≤ 262144 + tag_size is_tagged → n ≤ length bytes
    → IsOk (reply_by shape ((status_fields is_tagged).read (take n bytes))) → IsFound (reply_in is_tagged shape read)
unfolding reply_in
found_in is_tagged shape read n bytes is low high long ok = grind (arith, common_steps, le-ltb, found_after)
