-- Why a search finds no modulefile, apart from want of memory and a device that failed (module(1), modulefile(5)).
use Rattle.modulename.specs.ModuleName.{Text}

-- why a search finds no modulefile, with the name or the path that the reason is about
pub data FindReason : Type 0 where
  -- the name is ill-spelled
  bad_name : (name : Text) → FindReason
  -- no directory gives a module of this name
  not_found : (name : Text) → FindReason
  -- the default file at this path has a fault
  bad_default : (path : Text) → FindReason
  -- the module's file isn't UTF-8
  not_utf8_at : (path : Text) → FindReason
