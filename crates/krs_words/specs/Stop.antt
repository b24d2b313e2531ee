-- Why a script stops before the end of its lines.
use Rattle.krs_words.specs.declared.{no_command.NoCommand.NoCommand, stop.Stop.{Stop, TheVariants.{Memory, Usage}}}
use Rattle.krs_words.specs.declared.no_command.NoCommand.TheVariants as no_command

-- words that give no command stop the script
abbrev pub stop_of : NoCommand → Stop
stop_of no_command.Usage = Usage
stop_of no_command.Memory = Memory
