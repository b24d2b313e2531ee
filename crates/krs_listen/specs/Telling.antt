-- What is told on standard error where the daemon doesn't serve: keyretaind(8), "EXIT STATUS".
use Rattle.std.specs.Prelude.{[], ◌++◌, ◌==◌, ◌≡◌, codes, if◌then◌else◌, List, negsuc, None, Option, pos, Some, ℕ, ℤ}
use Rattle.krs_listen.specs.{Saying.{Heard, Says}, declared.acceptor.Accepted.{Accepted, TheVariants.{All, Failed}}}

-- where the words are no text
abbrev pub not_text : List ℕ
not_text = codes "keyretaind: an argument isn't UTF-8: see keyretaind --help\n"

-- what to do about an error of the system: ENOENT, EACCES, EMFILE and EADDRINUSE; asm-generic/errno.h
abbrev pub next_text : Option ℤ → List ℕ
next_text None = []
next_text (Some (negsuc n)) = []
next_text (Some (pos n)) =
    if n == 2 then codes "\nkeyretaind: its folder isn't there: make it first"
    else if n == 13 then codes "\nkeyretaind: this user may make nothing in its folder: ls -ld"
    else if n == 24 then codes "\nkeyretaind: it may open no more files: raise LimitNOFILE= of its unit, or ulimit -n"
    else if n == 98 then codes "\nkeyretaind: another daemon may use it: remove the path if none does"
    else []

-- the lines about a path, or about what else can't be done: what the system says of the error, and what to do
abbrev pub cause_text : (about said next : List ℕ) → List ℕ
cause_text about said next = codes "keyretaind: " ++ (about ++ (codes ": " ++ (said ++ (next ++ codes "\n"))))

-- they were said of this error, and of some error
abbrev pub TellsWhy : (about : List ℕ) → Option ℤ → Heard → Heard → Type 0
TellsWhy about code old new = (said : List ℕ) × Says old new (cause_text about said (next_text code))

abbrev pub TellsOf : (about : List ℕ) → Heard → Heard → Type 0
TellsOf about old new = (code : Option ℤ) × TellsWhy about code old new

-- why an accept failed, where one did
abbrev pub TellsFailure : Accepted → Heard → Heard → Type 0
TellsFailure All old new = new ≡ old
TellsFailure Failed old new = TellsOf (codes "accept") old new
