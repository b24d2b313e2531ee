-- Texts that are printed one after the other.
use Rattle.std.proofs.Common.{[], ◌++◌, ◌∙◌, ◌≡◌, ap, append-nil, append_assoc, List, None, Option, refl, Some, sym, ℕ}
use Rattle.std.specs.Io.KnownBytes.{Appends, Keeps}
use Rattle.std.proofs.KnownBytes.{Appends-nil, Appends-trans}
use Rattle.krs_words.specs.Writing.{Prints, WritesFront, WritesSome}

-- nothing is printed
pub Prints-nil : (c : Option (List ℕ)) (p : List ℕ) → Prints c p c p []
Prints-nil c p = ([], Appends-nil c, append-nil p)

joined : (p a b x q y r : List ℕ) → p ++ a ≡ x ++ q → q ++ b ≡ y ++ r → p ++ (a ++ b) ≡ (x ++ y) ++ r
joined p a b x q y r first next =
    sym (append_assoc p a b) ∙ ap (λ l. l ++ b) first ∙ append_assoc x q b ∙ ap (λ l. x ++ l) next
    ∙ sym (append_assoc x y r)

-- one text and another
pub Prints-trans : (c w v : Option (List ℕ)) (p q r a b : List ℕ) → Prints c p w q a → Prints w q v r b
    → Prints c p v r (a ++ b)
Prints-trans c w v p q r a b (x, adds, first) (y, more, next) =
    (x ++ y, Appends-trans c w v x y adds more, joined p a b x q y r first next)

-- a text, and then a beginning of another
pub WritesFront-behind : (c w v : Option (List ℕ)) (p q a b : List ℕ) → Prints c p w q a → WritesFront w v (q ++ b)
    → WritesFront c v (p ++ (a ++ b))
WritesFront-behind c w v p q a b (x, adds, first) (rest, (y, more, next)) =
    (rest, (x ++ y, Appends-trans c w v x y adds more, joined p a b x q y rest first next))

-- nothing is written
pub WritesFront-nil : (c : Option (List ℕ)) (text : List ℕ) → WritesFront c c text
WritesFront-nil c text = (text, ([], Appends-nil c, refl))

-- a text that was written whole
pub WritesFront-all : (c v : Option (List ℕ)) (text : List ℕ) → Appends c v text → WritesFront c v text
WritesFront-all c v text adds = ([], (text, adds, sym (append-nil text)))

-- what a writer holds stays what it was
pub Appends-kept : (a b c : Option (List ℕ)) (bs : List ℕ) → Appends a b bs → Keeps b c → Appends a c bs
Appends-kept None b c bs p q = tt
Appends-kept (Some x) None c bs p q = absurd p
Appends-kept (Some x) (Some y) None bs p q = absurd q
Appends-kept (Some x) (Some y) (Some z) bs p q = q ∙ p

-- one piece of a text more
pub WritesSome-more : (a b c : Option (List ℕ)) (text rest left : List ℕ) → WritesSome a b text rest
    → WritesSome b c rest left → WritesSome a c text left
WritesSome-more a b c text rest left (x, adds, first) (y, more, next) =
    (x ++ y, Appends-trans a b c x y adds more, first ∙ ap (λ l. x ++ l) next ∙ sym (append_assoc x y left))

-- a text, and then nothing of another
pub WritesFront-before : (a b : Option (List ℕ)) (text more : List ℕ) → WritesFront a b text
    → WritesFront a b (text ++ more)
WritesFront-before a b text more (rest, (x, adds, is)) =
    (rest ++ more, (x, adds, ap (λ l. l ++ more) is ∙ append_assoc x rest more))

-- a text, and then a beginning of another, where nothing waits
pub WritesFront-after : (a b c : Option (List ℕ)) (text more : List ℕ) → Appends a b text → WritesFront b c more
    → WritesFront a c (text ++ more)
WritesFront-after a b c text more adds (rest, (y, next, is)) =
    (rest, (text ++ y, Appends-trans a b c text y adds next, ap (λ l. text ++ l) is ∙ sym (append_assoc text y rest)))
