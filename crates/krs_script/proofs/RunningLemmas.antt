-- Lines of a script, one after the other.
use Rattle.std.proofs.Common.{[], ◌++◌, ◌==◌, ◌∙◌, ◌∷◌, ◌≡◌, ◌⊎◌, ap, append-nil, append_assoc, Bor, Err, false, IfErr}
use Rattle.std.proofs.Common.{inl, inr, length, List, map, Ok, OnOk, Option, refl, Result, Some, sym, true, ℕ}
use Rattle.std.proofs.lemmas.List.{length-map}
use Rattle.krs_words.specs.{Printing.shown, Words.{is_comment, words_of}, Writing.{Prints, WritesFront}}
use Rattle.krs_words.specs.declared.{output.Output.Output, stop.Stop.Stop}
use Rattle.krs_words.specs.declared.stop.Stop.TheVariants.{Connection, Memory, Printing, Reading, TooLong, Usage}
use Rattle.krs_words.proofs.WritingLemmas.{Prints-nil}
use Rattle.krs_commands.specs.{Command.command_of, declared.command.Command.Command}
use Rattle.krs_script.specs.Running.{is_skipped, ObeysLine, TakesLine, TakesLines}

module _ {S : Type 0} (acts : S → Command → Output → S → Type 0) (breaks : S → Command → Stop → S → Type 0) where
  -- a line that is a command, and was obeyed
  TakesLine-command : (old new : S) (line : List ℕ) (command : Command) (output : Output) → is_skipped line ≡ false
      → command_of (words_of line) ≡ Some command → acts old command output new
      → TakesLine acts old line (shown output ++ 10 ∷ []) new
  TakesLine-command old new line command output kept is does = rw kept (command, output, is, does, refl)

  -- what became of such a line, by how its line was printed
  pub ObeysLine-command : (old new : S) (line : List ℕ) (command : Command) (output : Output)
      (before : Option (List ℕ)) (waiting : List ℕ) (after : Option (List ℕ)) (waits : List ℕ)
      (r : Result (Unit {0}) Stop)
      → is_skipped line ≡ false → command_of (words_of line) ≡ Some command → acts old command output new
      → OnOk r (Prints before waiting after waits (shown output ++ 10 ∷ []))
      → (r ≡ Err Memory → Prints before waiting after waits [])
      → (r ≡ Err Printing → WritesFront before after (waiting ++ (shown output ++ 10 ∷ [])))
      → IfErr r (λ stop. (stop ≡ Memory) ⊎ (stop ≡ Printing))
      → ObeysLine acts breaks old line new before waiting after waits r
  ObeysLine-command old new line command output b p a q (Ok _) kept is does ok memory printing causes =
      (shown output ++ 10 ∷ [], TakesLine-command old new line command output kept is does, ok)
  ObeysLine-command old new line command output b p a q (Err Memory) kept is does ok memory printing causes = (
    inr (inr (shown output ++ 10 ∷ [], TakesLine-command old new line command output kept is does)),
    memory refl,
  )
  ObeysLine-command old new line command output b p a q (Err Printing) kept is does ok memory printing causes =
      (shown output ++ 10 ∷ [], TakesLine-command old new line command output kept is does, printing refl)
  ObeysLine-command old new line command output b p a q (Err Usage) kept is does ok memory printing causes =
      absurd (elim causes [ inl e ↦ cc | inr e ↦ cc ])
  ObeysLine-command old new line command output b p a q (Err Reading) kept is does ok memory printing causes =
      absurd (elim causes [ inl e ↦ cc | inr e ↦ cc ])
  ObeysLine-command old new line command output b p a q (Err TooLong) kept is does ok memory printing causes =
      absurd (elim causes [ inl e ↦ cc | inr e ↦ cc ])
  ObeysLine-command old new line command output b p a q (Err Connection) kept is does ok memory printing causes =
      absurd (elim causes [ inl e ↦ cc | inr e ↦ cc ])

-- a line that is no comment and has words
pub is_skipped-kept : (line : List ℕ) (words : List (Bor (List ℕ))) (n : ℕ) → false ≡ is_comment line
    → map (λ w. w.now) words ≡ words_of line
    → n ≡ length words → false ≡ (n == 0) → is_skipped line ≡ false
is_skipped-kept line words n kept are count some =
    let counted : length (words_of line) ≡ n = sym (ap length are) ∙ length-map words _ ∙ sym count in
    rw (← kept, counted, ← some) refl

-- a line that is no comment and has no words
is_skipped-empty : (line : List ℕ) (words : List (Bor (List ℕ))) (n : ℕ) → false ≡ is_comment line
    → map (λ w. w.now) words ≡ words_of line
    → n ≡ length words → true ≡ (n == 0) → is_skipped line ≡ true
is_skipped-empty line words n kept are count none =
    let counted : length (words_of line) ≡ n = sym (ap length are) ∙ length-map words _ ∙ sym count in
    rw (← kept, counted, ← none) refl

-- it is skipped
pub TakesLine-empty : {S : Type 0} (acts : S → Command → Output → S → Type 0) (s : S) (line : List ℕ)
    (words : List (Bor (List ℕ))) (n : ℕ) → false ≡ is_comment line
    → map (λ w. w.now) words ≡ words_of line
    → n ≡ length words → true ≡ (n == 0) → TakesLine acts s line [] s
TakesLine-empty acts s line words n kept are count none =
    rw (is_skipped-empty line words n kept are count none) (refl, refl)

-- one more line
pub TakesLines-more : {S : Type 0} (acts : S → Command → Output → S → Type 0) (a b c : S) (lines : List (List ℕ))
    (text : List ℕ) (line first : List ℕ)
    → TakesLines acts a lines text b → TakesLine acts b line first c
    → TakesLines acts a (lines ++ line ∷ []) (text ++ first) c
TakesLines-more acts a b c [] text line first taken takes =
    (c, first, [], rw taken.0 at takes, rw taken.1 (sym (append-nil first)), (refl, refl))
TakesLines-more acts a b c (x ∷ xs) text line first (mid, front, rest, one, is, others) takes = (
  mid,
  front,
  rest ++ first,
  one,
  rw
      (is, append_assoc) refl,
  TakesLines-more acts mid b c xs rest line first others takes,
)

-- what became of a line whose command broke off; nothing is printed for it
pub ObeysLine-broken : {S : Type 0} (acts : S → Command → Output → S → Type 0)
    (breaks : S → Command → Stop → S → Type 0) (old new : S) (line : List ℕ) (command : Command) (c : Option (List ℕ))
    (p : List ℕ) (stop : Stop)
    → is_skipped line ≡ false → command_of (words_of line) ≡ Some command → breaks old command stop new
    → (stop ≡ Usage) ⊎ ((stop ≡ Memory) ⊎ (stop ≡ Connection))
    → ObeysLine acts breaks old line new c p c p (Err stop)
ObeysLine-broken acts breaks old new line command c p Usage kept is broke cause =
    (inr (command, (kept, is), broke), Prints-nil c p)
ObeysLine-broken acts breaks old new line command c p Memory kept is broke cause =
    (inr (inl (command, (kept, is), broke)), Prints-nil c p)
ObeysLine-broken acts breaks old new line command c p Connection kept is broke cause =
    ((command, (kept, is), broke), Prints-nil c p)
ObeysLine-broken acts breaks old new line command c p Reading kept is broke cause =
    absurd (elim cause [ inl e ↦ cc | inr e ↦ elim e [ inl f ↦ cc | inr f ↦ cc ] ])
ObeysLine-broken acts breaks old new line command c p TooLong kept is broke cause =
    absurd (elim cause [ inl e ↦ cc | inr e ↦ elim e [ inl f ↦ cc | inr f ↦ cc ] ])
ObeysLine-broken acts breaks old new line command c p Printing kept is broke cause =
    absurd (elim cause [ inl e ↦ cc | inr e ↦ elim e [ inl f ↦ cc | inr f ↦ cc ] ])
