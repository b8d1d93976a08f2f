-- A command as C gives it. (dialect)
use Rattle.std.specs.Prelude.{ℕ, List, [], Option, Some, None}
use Rattle.bib_spec.specs.Text.{Text}
use Rattle.bib_words.specs.declared.commands.Command.{Command}
use Rattle.bib_c.specs.Words.{words_of}
use Rattle.bib_c.specs.declared.asking.Options.{Options}

-- The command with this name, these arguments, aux files, other files and options. The other files are named as if all were read
-- before its own, which makes no difference to an answer.
abbrev pub command_of : Text → List Text → List Text → List Text → Options → Command
command_of name words aux others options = record {
  name = name;
  words = words;
  aux = aux;
  before = others;
  after = [];
  cited = [];
  n = options.n;
  depth = options.depth;
  print = options.print;
  new_journal = options.new_journal;
  no_journal = options.no_journal;
  all_or_nothing = options.all_or_nothing;
  dropped = options.dropped;
  at = options.at;
  strict = options.strict;
  latex = options.latex;
  raw = options.raw;
  skipped = options.skipped;
  plain = options.plain;
  bibtex = options.bibtex;
}

-- the same of lists that there are
abbrev pub asked_with : Text → Option (List Text) → Option (List Text) → Option (List Text) → Options → Option Command
asked_with name (Some words) (Some aux) (Some others) options = Some (command_of name words aux others options)
asked_with name (Some words) (Some aux) None options = None
asked_with name (Some words) None others options = None
asked_with name None aux others options = None

-- The command whose arguments and aux files are given as one text and lengths each, over one file; none if a text is too short for
-- its lengths.
abbrev pub asked_of : Text → Text → List ℕ → Text → List ℕ → Options → Option Command
asked_of name words lens aux aux_lens options = asked_with name (words_of words lens) (words_of aux aux_lens) (Some []) options

-- the same over files whose names are given so too
abbrev pub asked_among : Text → Text → List ℕ → Text → List ℕ → Text → List ℕ → Options → Option Command
asked_among name words lens aux aux_lens names name_lens options = asked_with name (words_of words lens) (words_of aux aux_lens) (words_of names name_lens) options
