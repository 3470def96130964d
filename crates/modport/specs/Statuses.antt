-- With which status a file ends (modport(1)).
use Rattle.port_rewriting.specs.declared.class.Class.{Class}
use Rattle.port_rewriting.specs.declared.class.Class.TheVariants as classes
use Rattle.modport.specs.declared.status.Status.{Status}
use Rattle.modport.specs.declared.status.Status.TheVariants as statuses

-- what is the same or exact is within, and what is changed or left isn't
abbrev pub status_of : Class → Status
status_of classes.Same = statuses.Within
status_of classes.Exact = statuses.Within
status_of classes.Changed = statuses.Left
status_of classes.Left = statuses.Left
