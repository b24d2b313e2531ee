-- A script between two lines, and how it ends from there.
use Rattle.std.proofs.Common.{[], ◌++◌, ◌+◌, ◌<◌, ◌∙◌, ◌∷◌, ◌≡◌, ◌≤◌, ◌⊎◌, ap, append-nil, append_assoc, arith, Bool}
use Rattle.std.proofs.Common.{Err}
use Rattle.std.proofs.Common.{IfSome, inl, inr, length, length-append, List, None, Ok, Option, refl, Result, Some}
use Rattle.std.proofs.Common.{subst, sym, ℕ}
use Rattle.std.specs.Io.KnownBytes.{Appends, IsAtEnd}
use Rattle.std.proofs.KnownBytes.{Appends-trans}
use Rattle.krs_words.specs.Lines.{lines_of, ReadsLines}
use Rattle.krs_words.specs.{Writing.{Prints, WritesFront}, declared.{output.Output.Output, stop.Stop.Stop}}
use Rattle.krs_words.specs.declared.stop.Stop.TheVariants.{Connection, Memory, Printing, Reading, TooLong, Usage}
use Rattle.krs_words.proofs.WritingLemmas.{Prints-nil, Prints-trans, WritesFront-behind}
use Rattle.krs_commands.specs.declared.command.Command.{Command}
use Rattle.krs_script.specs.Ending.{Finishes, last_line, most_lines, Says, status_of}
use Rattle.krs_script.specs.Running.{BeginsWith, Ends, IsPrinted, IsShown, ObeysLine, Runs, StopsBehind, TakesLine}
use Rattle.krs_script.specs.Running.{TakesLines}
use Rattle.krs_script.proofs.RunningLemmas.{TakesLines-more}

-- lines were run, by what that says in turn
runs_is : {S : Type 0} {acts : S → Command → Output → S → Type 0} {breaks : S → Command → Stop → S → Type 0}
    {input : Option (List ℕ)} {old new : S} {c v : Option (List ℕ)} {p r : List ℕ} {end : Result (Unit {0}) Stop}
    (lines : List (List ℕ)) (text : List ℕ) (last : S) → TakesLines acts old lines text last
    → length lines ≤ most_lines → StopsBehind breaks input lines last new end → IsPrinted c p v r text end
    → Runs acts breaks input old new c p v r end
runs_is lines text last taken bound behind prints = record {
  lines = lines;
  text = text;
  last = last;
  taken = taken;
  bound = bound;
  behind = behind;
  prints = prints;
}

-- so many lines were read and obeyed so far, and this was printed
pub record Going {S : Type 0} (acts : S → Command → Output → S → Type 0) (count : ℕ) (input left : Option (List ℕ))
    (old now : S) (c : Option (List ℕ)) (p : List ℕ) (w : Option (List ℕ)) (q : List ℕ) : Type 0 where
  pub lines : List (List ℕ)
  pub text : List ℕ
  pub counted : length lines ≡ count
  pub taken : TakesLines acts old lines text now
  pub read : ReadsLines input left lines
  pub prints : Prints c p w q text

ReadsLines-nil : (a : Option (List ℕ)) → ReadsLines a a []
ReadsLines-nil None = tt
ReadsLines-nil (Some bytes) = refl

ReadsLines-trans : (a b c : Option (List ℕ)) (first rest : List (List ℕ)) → ReadsLines a b first
    → ReadsLines b c rest → ReadsLines a c (first ++ rest)
ReadsLines-trans None b c first rest r s = tt
ReadsLines-trans (Some x) None c first rest r s = absurd r
ReadsLines-trans (Some x) (Some y) None first rest r s = absurd s
ReadsLines-trans (Some x) (Some y) (Some z) first rest r s = rw (r, s, append_assoc) refl

-- what was read so far
begins : (input left : Option (List ℕ)) (lines : List (List ℕ)) → ReadsLines input left lines → BeginsWith input lines
begins None left lines r = tt
begins (Some bytes) None lines r = absurd r
begins (Some bytes) (Some left) lines r = (lines_of left, r)

all_read : (input left : Option (List ℕ)) (lines : List (List ℕ)) → ReadsLines input left lines → IsAtEnd left
    → IfSome input (λ bytes. lines_of bytes ≡ lines)
all_read None left lines r end = tt
all_read (Some bytes) None lines r end = absurd r
all_read (Some bytes) (Some left) lines r end = rw (r, end) (append-nil lines)

counted_more : (lines : List (List ℕ)) (line : List ℕ) (count : ℕ) → length lines ≡ count
    → length (lines ++ line ∷ []) ≡ count + 1
counted_more lines line count is = omega (arith, is, length-append lines (line ∷ []))

pub going_start : {S : Type 0} (acts : S → Command → Output → S → Type 0) (input c : Option (List ℕ)) (p : List ℕ)
    (s : S) → Going acts 0 input input s s c p c p
going_start acts input c p s = record {
  lines = [];
  text = [];
  counted = refl;
  taken = (refl, refl);
  read = ReadsLines-nil input;
  prints = Prints-nil c p;
}

-- nothing more was printed
prints_same : (c w v : Option (List ℕ)) (p q r text : List ℕ) → Prints c p w q text → Prints w q v r []
    → Prints c p v r text
prints_same c w v p q r text first rest = rw (append-nil text) at (Prints-trans c w v p q r text [] first rest)

-- nothing more was to be printed, and what waited was not written whole
front_same : (c w v : Option (List ℕ)) (p q text : List ℕ) → Prints c p w q text → WritesFront w v q
    → WritesFront c v (p ++ text)
front_same c w v p q text first front =
    rw (append-nil text) at (WritesFront-behind c w v p q text [] first (rw (sym (append-nil q)) at front))

module _ {S : Type 0} (acts : S → Command → Output → S → Type 0) (breaks : S → Command → Stop → S → Type 0)
    (input : Option (List ℕ)) (old : S) (c : Option (List ℕ)) (p : List ℕ) where
  -- what waited may have been written
  pub going_same : (count : ℕ) (left w v : Option (List ℕ)) (now : S) (q r : List ℕ)
      → Going acts count input left old now c p w q → Prints w q v r []
      → Going acts count input left old now c p v r
  going_same count left w v now q r going prints = record {
    lines = going.lines;
    text = going.text;
    counted = going.counted;
    taken = going.taken;
    read = going.read;
    prints = prints_same c w v p q r going.text going.prints prints;
  }

  -- one more line
  pub going_more : (count : ℕ) (left after w v : Option (List ℕ)) (now new : S) (q r line first : List ℕ)
      → Going acts count input left old now c p w q
      → ReadsLines left after (line ∷ []) → TakesLine acts now line first new → Prints w q v r first
      → Going acts (count + 1) input after old new c p v r
  going_more count left after w v now new q r line first going reads takes prints = record {
    lines = going.lines ++ line ∷ [];
    text = going.text ++ first;
    counted = counted_more going.lines line count going.counted;
    taken = TakesLines-more acts old now new going.lines going.text line first going.taken takes;
    read = ReadsLines-trans input left after going.lines (line ∷ []) going.read reads;
    prints = Prints-trans c w v p q r going.text first going.prints prints;
  }

  begins_behind : (left after : Option (List ℕ)) (line : List ℕ) (lines : List (List ℕ)) → ReadsLines input left lines
      → ReadsLines left after (line ∷ []) → BeginsWith input (lines ++ line ∷ [])
  begins_behind left after line lines read reads =
      begins input after (lines ++ line ∷ []) (ReadsLines-trans input left after lines (line ∷ []) read reads)

  -- the line that was read last ends the script
  pub runs_at_line : (count : ℕ) (left after w v : Option (List ℕ)) (now new : S) (q r line : List ℕ)
      (stop : Stop) → count < most_lines → Going acts count input left old now c p w q
      → ReadsLines left after (line ∷ []) → ObeysLine acts breaks now line new w q v r (Err stop)
      → Runs acts breaks input old new c p v r (Err stop)
  runs_at_line count left after w v now new q r line Usage low going reads (cause, prints) =
      runs_is going.lines going.text now going.taken (omega (arith, low, going.counted))
      (line, cause, begins_behind left after line going.lines going.read reads)
      (prints_same c w v p q r going.text going.prints prints)
  runs_at_line count left after w v now new q r line Connection low going reads (broke, prints) =
      runs_is going.lines going.text now going.taken (omega (arith, low, going.counted))
      (line, broke, begins_behind left after line going.lines going.read reads)
      (prints_same c w v p q r going.text going.prints prints)
  runs_at_line count left after w v now new q r line Memory low going reads (inl same, prints) =
      runs_is going.lines going.text now going.taken (omega (arith, low, going.counted))
      (inl (same, begins input left going.lines going.read))
      (going.text, [], sym (append-nil going.text), prints_same c w v p q r going.text going.prints prints)
  runs_at_line count left after w v now new q r line Memory low going reads (inr (inl broke), prints) =
      runs_is going.lines going.text now going.taken (omega (arith, low, going.counted))
      (inr (line, broke, begins_behind left after line going.lines going.read reads))
      (going.text, [], sym (append-nil going.text), prints_same c w v p q r going.text going.prints prints)
  runs_at_line count left after w v now new q r line Memory low going reads (inr (inr (text, takes)), prints) =
      runs_is (going.lines ++ line ∷ []) (going.text ++ text) new
      (TakesLines-more acts old now new going.lines going.text line text going.taken takes)
      (omega (arith, low, counted_more going.lines line count going.counted))
      (inl (refl, begins_behind left after line going.lines going.read reads))
      (going.text, text, refl, prints_same c w v p q r going.text going.prints prints)
  runs_at_line count left after w v now new q r line Reading low going reads obeys = absurd obeys
  runs_at_line count left after w v now new q r line TooLong low going reads obeys = absurd obeys
  runs_at_line count left after w v now new q r line Printing low going reads (text, takes, front) =
      runs_is (going.lines ++ line ∷ []) (going.text ++ text) new
      (TakesLines-more acts old now new going.lines going.text line text going.taken takes)
      (omega (arith, low, counted_more going.lines line count going.counted))
      (refl, begins_behind left after line going.lines going.read reads)
      (WritesFront-behind c w v p q going.text text going.prints front)

module _ {S : Type 0} (acts : S → Command → Output → S → Type 0) (breaks : S → Command → Stop → S → Type 0)
    (count : ℕ) (input left : Option (List ℕ)) (old now : S) (c : Option (List ℕ)) (p : List ℕ)
    (w : Option (List ℕ)) (q : List ℕ) where
  -- all lines are read
  pub runs_to_end : count < most_lines → Going acts count input left old now c p w q → IsAtEnd left
      → Runs acts breaks input old now c p w q (Ok tt)
  runs_to_end low going end = runs_is going.lines going.text now going.taken (omega (arith, low, going.counted))
      (refl, all_read input left going.lines going.read end) going.prints

  -- as many lines are read as a script has at most
  pub runs_too_long : count ≡ most_lines → Going acts count input left old now c p w q
      → Runs acts breaks input old now c p w q (Err TooLong)
  runs_too_long full going = runs_is going.lines going.text now going.taken (omega (arith, full, going.counted))
      (refl, going.counted ∙ full, begins input left going.lines going.read) going.prints

  -- no line could be read
  pub runs_unread : (stop : Stop) → (stop ≡ Memory) ⊎ (stop ≡ Reading) → count < most_lines
      → Going acts count input left old now c p w q → Runs acts breaks input old now c p w q (Err stop)
  runs_unread Memory cause low going = runs_is going.lines going.text now going.taken
      (omega (arith, low, going.counted)) (inl (refl, begins input left going.lines going.read))
      (going.text, [], sym (append-nil going.text), going.prints)
  runs_unread Reading cause low going = runs_is going.lines going.text now going.taken
      (omega (arith, low, going.counted)) (refl, begins input left going.lines going.read) going.prints
  runs_unread Usage cause low going = absurd (elim cause [ inl e ↦ cc | inr e ↦ cc ])
  runs_unread TooLong cause low going = absurd (elim cause [ inl e ↦ cc | inr e ↦ cc ])
  runs_unread Printing cause low going = absurd (elim cause [ inl e ↦ cc | inr e ↦ cc ])
  runs_unread Connection cause low going = absurd (elim cause [ inl e ↦ cc | inr e ↦ cc ])

  -- what waited could not be written
  pub runs_unwritten : (v : Option (List ℕ)) (r : List ℕ) → count < most_lines
      → Going acts count input left old now c p w q → WritesFront w v q
      → Runs acts breaks input old now c p v r (Err Printing)
  runs_unwritten v r low going front = runs_is going.lines going.text now going.taken
      (omega (arith, low, going.counted)) (refl, begins input left going.lines going.read)
      (front_same c w v p q going.text going.prints front)

-- a script's text and its last line were said
pub record Said (c v : Option (List ℕ)) (text : List ℕ) (stopped : Result (Unit {0}) Stop) (refused : Bool)
    (status : ℕ) : Type 0 where
  pub printed : List ℕ
  pub shows : IsShown stopped text printed
  pub ends : Says c v (printed ++ last_line stopped) (status_of stopped refused) status

-- what was printed, what waited behind it, and then a last line
says_last : (c w v : Option (List ℕ)) (q text last : List ℕ) (wanted status : ℕ) → Prints c [] w q text
    → Says w v (q ++ last) wanted status → Says c v (text ++ last) wanted status
says_last c w v q text last wanted status (x, adds, is) (inl (same, more)) =
    inl (
      same,
      subst (Appends c v) (sym (append_assoc x q last) ∙ ap (λ l. l ++ last) (sym is))
          (Appends-trans c w v x (q ++ last) adds more),
    )
says_last c w v q text last wanted status prints (inr (three, front)) =
    inr (three, WritesFront-behind c w v [] q text last prints front)

three_of : (q : List ℕ) (w v : Option (List ℕ)) (status : ℕ) → Says w v q 3 status → status ≡ 3
three_of q w v status (inl (is, adds)) = is
three_of q w v status (inr (is, front)) = is

-- a script that ends has printed its lines and then its last line; of a writer that failed nothing more was asked
pub script_ends : (c w v : Option (List ℕ)) (p q text : List ℕ) (stopped : Result (Unit {0}) Stop) (refused : Bool)
    (status : ℕ) → p ≡ [] → IsPrinted c p w q text stopped → Finishes w q v stopped refused status
    → (stopped ≡ Err Printing → v ≡ w) → Said c v text stopped refused status
script_ends c w v p q text (Ok u) refused status none prints says failed =
    record { printed = text; shows = refl; ends = says_last c w v q text _ _ status (rw none at prints) says }
script_ends c w v p q text (Err Usage) refused status none prints says failed =
    record { printed = text; shows = refl; ends = says_last c w v q text _ _ status (rw none at prints) says }
script_ends c w v p q text (Err Memory) refused status none (printed, rest, is, prints) says failed = record {
  printed = printed;
  shows = (rest, is);
  ends = says_last c w v q printed _ _ status (rw none at prints) says;
}
script_ends c w v p q text (Err Reading) refused status none prints says failed =
    record { printed = text; shows = refl; ends = says_last c w v q text _ _ status (rw none at prints) says }
script_ends c w v p q text (Err TooLong) refused status none prints says failed =
    record { printed = text; shows = refl; ends = says_last c w v q text _ _ status (rw none at prints) says }
script_ends c w v p q text (Err Connection) refused status none prints says failed =
    record { printed = text; shows = refl; ends = says_last c w v q text _ _ status (rw none at prints) says }
script_ends c w v p q text (Err Printing) refused status none (rest, (y, adds, is)) says failed = record {
  printed = y;
  shows = (rest, rw none at is);
  ends = inl (three_of _ w v status says, rw (failed refl, append-nil y) adds);
}

-- lines that were run, and then what ended them, are a whole script
pub ends_of : {S : Type 0} (acts : S → Command → Output → S → Type 0) (breaks : S → Command → Stop → S → Type 0)
    (input : Option (List ℕ)) (old new : S) (c w v : Option (List ℕ)) (p q : List ℕ)
    (stopped : Result (Unit {0}) Stop) (refused : Bool) (status : ℕ) → p ≡ []
    → Runs acts breaks input old new c p w q stopped → Finishes w q v stopped refused status
    → (stopped ≡ Err Printing → v ≡ w) → Ends acts breaks input c v old new refused status
ends_of acts breaks input old new c w v p q stopped refused status none runs says failed =
    let said = script_ends c w v p q runs.text stopped refused status none runs.prints says failed in
    record {
      lines = runs.lines;
      text = runs.text;
      printed = said.printed;
      last = runs.last;
      stopped = stopped;
      taken = runs.taken;
      bound = runs.bound;
      behind = runs.behind;
      shows = said.shows;
      ends = said.ends;
    }
