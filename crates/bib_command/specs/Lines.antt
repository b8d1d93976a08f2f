-- When a command of clap reads its words as a line of the command line does.
use Rattle.std.specs.Prelude.{◌≡◌, false}
use Rattle.clap.specs.Words.{App, app_of}
use Rattle.clap.specs.declared.builder.Command.{Command}
use Rattle.clap.specs.declared.builder.Command.TheViews.{out-Command}

-- the command reads words as `line` does
pub record Reads (line : App) (c : Command) : Type 0 where
  pub app : app_of c ≡ line
  pub local : (out-Command c).has_globals ≡ false
