-- What each command is run over (module(1), LIMITS).
use Rattle.filetree.specs.Agreement.{Files, Listings}
use Rattle.shelltext.specs.declared.shell.Shell.{Shell}
use Rattle.tclrules.specs.declared.limits.Limits.{Limits}
use Rattle.requests.specs.Steps.{RequestContext, request_context_in}

-- what every modulefile may use: 100,000 commands, evaluations nested 200 deep, 1,048,576 bytes in a value
abbrev pub standard : Limits
standard = record { commands = 100000; depth = 200; value_bytes = 1048576 }

-- a shell, and files and directories, under these limits
abbrev pub context : Shell → Files → Listings → RequestContext
context shell files listings = request_context_in standard shell files listings
