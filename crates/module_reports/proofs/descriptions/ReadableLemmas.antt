-- Descriptions of what can be read.
use Rattle.std.proofs.Common.{List, Option}
use Rattle.envvars.specs.Environment.{Environment}
use Rattle.envvars.specs.Texts.{Text}
use Rattle.filetree.specs.Agreement.{Files, Listings}
use Rattle.filetree.specs.hiding.Hidden.{AgreesWithout, AreApart, MayAgreeWithout}
use Rattle.filetree.proofs.hiding.HidingLemmas.{left_pairs}
use Rattle.shelltext.specs.declared.shell.Shell.{Shell}
use Rattle.tclrules.specs.declared.limits.Limits.{Limits}
use Rattle.module_reports.specs.descriptions.Descriptions.{IsDescription}

-- a description of what may be left is one of what is left without the hidden paths
pub of_what_is_left : (hidden seen : List Text) (agrees : Files → Listings → Type 0) (limits : Limits) (shell : Shell) (e : Environment) (sought : Option Text) (text left_out : Text) → AreApart hidden seen
    → IsDescription (MayAgreeWithout hidden seen agrees) limits shell e sought text left_out → IsDescription (AgreesWithout hidden agrees) limits shell e sought text left_out
of_what_is_left hidden seen agrees limits shell e sought text left_out apart d = record {
  names = d.names;
  outcomes = d.outcomes;
  listed = λ files listings a. d.listed files listings (left_pairs hidden seen agrees apart files listings a);
  described = λ files listings a. d.described files listings (left_pairs hidden seen agrees apart files listings a);
  remembered = d.remembered;
  shows = d.shows;
  leaves_out = d.leaves_out;
}
