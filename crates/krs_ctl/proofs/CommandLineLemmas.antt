-- Where words lead.
use Rattle.std.proofs.Common.{[], ◌<◌, ◌↔◌, ◌∙◌, ◌∷◌, ◌≡◌, ◌≤◌, ap, arith, Bool, Bor, Err, IfOk, inl, inr, IsTrue}
use Rattle.std.proofs.Common.{length, List, map, nat_eq, Ok, OnErr, refl, Result, rules, subst, sym, tests, ℕ}
use Rattle.clap.specs.{Words.{fault_of, HasKind, kind_of, Kinds}, declared.error.Error.Error}
use Rattle.clap.specs.declared.error.kind.ErrorKind.TheVariants.{DisplayHelp, DisplayVersion, OutOfMemory}
use Rattle.std.specs.Cmp.Lexicographic.{pointwise}
use Rattle.krs_ctl.specs.Choice.{Tells}
use Rattle.krs_ctl.specs.{CommandLine.{client, LeadsTo, Spells}, declared.choice.Choice.{Choice, TheVariants.Call}}
use Rattle.krs_ctl.specs.declared.choice.Choice.TheVariants.{Memory, NoCommand, Refused, Remote, Script, Shown, Usage}

-- what words lead to that were all had, or for which there was no memory
pub leads_of_all : {V E : Type 0} (had : Result V E) (texts : V → List (List ℕ)) (all : List (List ℕ)) (choice : Choice)
    → IfOk had (λ v. LeadsTo (texts v) choice) → OnErr had (choice ≡ Memory) → IfOk had (λ v. texts v ≡ all)
    → LeadsTo all choice
leads_of_all (Ok v) texts all choice leads memory same = subst (λ (ts : List (List ℕ)). LeadsTo ts choice) same leads
leads_of_all (Err e) texts all choice leads memory same = subst (λ (ch : Choice). LeadsTo all ch) (sym memory) tt

not_help : OutOfMemory ≡ DisplayHelp → ⊥
not_help e = search rules

not_version : OutOfMemory ≡ DisplayVersion → ⊥
not_version e = search rules

-- what is told of an error that `clap` found in the words
pub leads_by_fault : (faults : Kinds) (error : Error) (choice : Choice) → HasKind faults error
    → Tells (kind_of error) choice → (words : List (List ℕ)) → faults ≡ fault_of client words → LeadsTo words choice
leads_by_fault faults error Script has told words same = absurd told
leads_by_fault faults error (Remote path) has told words same = absurd told
leads_by_fault faults error (Call call) has told words same = absurd told
leads_by_fault faults error (Usage why) has told words same = absurd told
leads_by_fault faults error (NoCommand text) has told words same = absurd told
leads_by_fault faults error Memory has told words same = tt
leads_by_fault faults error (Shown text) has told words same = elim has [
  | inl out ↦ elim told [
    | inl help ↦ absurd (not_help (sym out ∙ help))
    | inr version ↦ absurd (not_version (sym out ∙ version))
  ]
  | inr among ↦ elim told [
    | inl help ↦ inl (rw (help, same) at among)
    | inr version ↦ inr (rw (version, same) at among)
  ]
]
leads_by_fault faults error (Refused text) has told words same = elim has [
  | inl out ↦ absurd (told.2 out)
  | inr among ↦ (kind_of error, rw same at among, told.0, told.1)
]

-- the choice that words spell, in which `clap` finds no fault
pub leads_of_spelled : (words : List (List ℕ)) (choice : Choice) → Spells words choice → fault_of client words ≡ []
    → LeadsTo words choice
leads_of_spelled words Script spelled none = (spelled, none)
leads_of_spelled words (Remote path) spelled none = (spelled, none)
leads_of_spelled words (Call call) spelled none = (spelled, none)
leads_of_spelled words (Usage why) spelled none = (spelled, none)
leads_of_spelled words (NoCommand text) spelled none = (spelled, none)
leads_of_spelled words Memory spelled none = tt
leads_of_spelled words (Shown text) spelled none = absurd (spelled.2.1 spelled.2.0)
leads_of_spelled words (Refused text) spelled none = absurd (spelled.2.1 spelled.2.0)

-- one word is a text just where all words are that text alone
text_alone : (text word : List ℕ) (b : Bool) → b ≡ pointwise nat_eq word text → IsTrue b ↔ (word ∷ [] ≡ text ∷ [])
text_alone text word b is = search (rules, tests)

pub word_alone : (text : List ℕ) (words : List (Bor (List ℕ))) (b : Bool) → 1 ≤ length words → length words < 2
    → ((word : Bor (List ℕ)) → words ≡ word ∷ [] → b ≡ pointwise nat_eq word.now text)
    → IsTrue b ↔ (map (λ (w : Bor (List ℕ)). w.now) words ≡ text ∷ [])
word_alone text [] b least most is = absurd (omega (arith, least))
word_alone text (word ∷ []) b least most is = text_alone text word.now b (is word refl)
word_alone text (word ∷ (other ∷ more)) b least most is = absurd (omega (arith, most))
