-- How a command grows.
use Rattle.std.proofs.Common.{◌≡◌, ◌∙◌, ap₂, false, ◌||◌}
use Rattle.clap.specs.Words.{App, Rule, AddsArg, AddsSubcommand, rule_of, with_rule}
use Rattle.clap.specs.declared.builder.Command.{Command}
use Rattle.clap.specs.declared.builder.Arg.{Arg}
use Rattle.bib_command.specs.Lines.{Reads}
use Rattle.bib_command.specs.CommandLine.{joins}

or_false : (a b c : _) → c ≡ (a || b) → a ≡ false → b ≡ false → c ≡ false
or_false a b c e x y = e ∙ ap₂ (λ p q. p || q) x y

-- a command with one more argument
pub reads_rule : (old new : Command) (a : Arg) (line : App) (r : Rule) → AddsArg old a new → Reads line old → rule_of a ≡ r → a.global ≡ false → Reads (with_rule line r) new
reads_rule old new a line r h o e l = record {
  app = h.shape l ∙ ap₂ with_rule o.app e;
  local = or_false _ _ _ h.globals o.local l;
}

-- a command with one more subcommand
pub reads_subcommand : (old sub new : Command) (x y : App) → AddsSubcommand old sub new → Reads x old → Reads y sub → Reads (joins x y) new
reads_subcommand old sub new x y h o s = record {
  app = h.shape s.local ∙ ap₂ joins o.app s.app;
  local = or_false _ _ _ h.globals o.local s.local;
}
