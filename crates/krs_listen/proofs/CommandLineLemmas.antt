-- The options and the numbers that arguments give.
use Rattle.std.proofs.Common.{◌<◌, ◌↔◌, ◌∙◌, ◌≡◌, ◌≤◌, codes, Err, IfErr, IfOk, IfSome, inl, inr, IsSome, List, None}
use Rattle.std.proofs.Common.{Ok, OnErr, Option, refl, Result, rules, Some, string_bytes, subst, sym, true≢false, ℕ}
use Rattle.clap.specs.Words.{FailsBy, fault_of, first_value, HasKind, kind_of, Kinds, one_text, ReadsOne}
use Rattle.clap.specs.declared.error.Error.{Error}
use Rattle.clap.specs.declared.error.kind.ErrorKind.TheVariants.{DisplayHelp, DisplayVersion, OutOfMemory}
use Rattle.clap.specs.declared.parser.matches.Found.{Found}
use Rattle.std.specs.Str.Parse.{ParsesUnsigned}
use Rattle.krs_listen.specs.{Choice.{choice_by, IsToldAs, LeadsTo}, CommandLine.{daemon, Gives, IsGiven, Spells}}
use Rattle.krs_listen.specs.declared.choice.Choice.{Choice, TheVariants.{Memory, Refused, Serve, Shown, Usage}}
use Rattle.krs_listen.specs.declared.options.Options.{Options}

-- what `get_one` reads of a text is the number that it is
pub is_given : {E : Type 0} (gives : List ℕ → Result ℕ E → Type 0) (text : Option (List ℕ)) (number : Option ℕ)
    → ((t : List ℕ) (r : Result ℕ E) → gives t r → ParsesUnsigned 32 10 t r) → (text ≡ None → number ≡ None)
    → ((t : List ℕ) → text ≡ Some t → ReadsOne gives t number) → IsGiven text number
is_given gives None number parses none some = none refl
is_given gives (Some text) None parses none some = let read = some text refl in parses text _ read.1
is_given gives (Some text) (Some number) parses none some =
    let read = parses text _ (some text refl) in (read.0.0, read.1)

pub some_weaker : {X : Type 0} (o : Option X) (P Q : X → Type 0) → ((x : X) → P x → Q x) → IfSome o P → IfSome o Q
some_weaker None P Q so h = tt
some_weaker (Some x) P Q so h = so x h

-- the options that were made of a path, a number of lanes and a number of connections
pub gives_made : (found : Found) (made : Option Options) (lanes : ℕ) (accept : Option ℕ)
    → (IsSome made ↔ ((0 < lanes) × (lanes ≤ 256)))
    → IfSome made (λ options. first_value found (codes "socket") ≡ Some (string_bytes options.path))
    → IfSome made (λ options. options.lanes ≡ lanes) → IfSome made (λ options. options.accept ≡ accept)
    → IsGiven (one_text found (codes "lanes")) (Some lanes) → IsGiven (one_text found (codes "accept")) accept
    → Gives found made
gives_made found None lanes accept fits path same_lanes same_accept given_lanes given_accept =
    inr (Some lanes, given_lanes, λ within. true≢false (sym (fits.1 within)))
gives_made found (Some options) lanes accept fits path same_lanes same_accept given_lanes given_accept = (
  path,
  subst (λ (n : ℕ). IsGiven (one_text found (codes "lanes")) (Some n)) (sym same_lanes) given_lanes,
  subst (λ (o : Option ℕ). IsGiven (one_text found (codes "accept")) o) (sym same_accept) given_accept,
)

-- what words lead to that were all had, or for which there was no memory
pub leads_of_all : {V E : Type 0} (had : Result V E) (texts : V → List (List ℕ)) (all : List (List ℕ)) (choice : Choice)
    → IfOk had (λ v. LeadsTo (texts v) choice) → OnErr had (choice ≡ Memory) → IfOk had (λ v. texts v ≡ all)
    → LeadsTo all choice
leads_of_all (Ok v) texts all choice leads memory same = subst (λ (ts : List (List ℕ)). LeadsTo ts choice) same leads
leads_of_all (Err e) texts all choice leads memory same = subst (λ (ch : Choice). LeadsTo all ch) (sym memory) tt

not_help : OutOfMemory ≡ DisplayHelp → ⊥
not_help e = search rules

not_version : OutOfMemory ≡ DisplayVersion → ⊥
not_version e = search rules

-- what is told of an error that `clap` found in the words
leads_by_fault : (faults : Kinds) (error : Error) (text : Option (List ℕ)) (choice : Choice) → HasKind faults error
    → IsToldAs (kind_of error) text choice → (words : List (List ℕ)) → faults ≡ fault_of daemon words
    → LeadsTo words choice
leads_by_fault faults error text (Serve options) has told words same = absurd told
leads_by_fault faults error text Usage has told words same = absurd told
leads_by_fault faults error text Memory has told words same = tt
leads_by_fault faults error text (Shown shown) has told words same = elim has [
  | inl out ↦ elim told.0 [
    | inl help ↦ absurd (not_help (sym out ∙ help))
    | inr version ↦ absurd (not_version (sym out ∙ version))
  ]
  | inr among ↦ elim told.0 [
    | inl help ↦ inl (rw (help, same) at among)
    | inr version ↦ inr (rw (version, same) at among)
  ]
]
leads_by_fault faults error text (Refused refused) has told words same = elim has [
  | inl out ↦ absurd (told.2 out)
  | inr among ↦ (kind_of error, rw same at among, told.0, told.1)
]

-- what words lead to of which options were read
pub leads_of_read : (read : Result (Option Options) Error) (words : List (List ℕ)) (choice : Choice)
    → IfOk read (Spells words) → FailsBy (fault_of daemon words) read
    → IfOk read (λ options. choice ≡ choice_by options)
    → IfErr read (λ error. (text : Option (List ℕ)) × IsToldAs (kind_of error) text choice)
    → LeadsTo words choice
leads_of_read (Ok None) words choice spelled faults is told =
    subst (λ (ch : Choice). LeadsTo words ch) (sym is) (spelled, faults)
leads_of_read (Ok (Some options)) words choice spelled faults is told =
    subst (λ (ch : Choice). LeadsTo words ch) (sym is) (spelled, faults)
leads_of_read (Err error) words choice spelled faults is told =
    leads_by_fault (fault_of daemon words) error told.0 choice faults told.1 words refl
