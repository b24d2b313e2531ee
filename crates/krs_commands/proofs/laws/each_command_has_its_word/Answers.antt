use Rattle.std.proofs.Common.{refl}
use Rattle.krs_commands.specs.Command.{change_commands, context_commands, key_commands, link_commands, queue_commands}
use Rattle.krs_commands.proofs.laws.each_command_has_its_word.Goals as goal

pub returns : goal.returns
unfolding context_commands key_commands change_commands link_commands queue_commands
returns c = refl
