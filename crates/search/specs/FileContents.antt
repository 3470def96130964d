-- How the type of the code shows what a path holds as a modulefile.
use Rattle.std.specs.Prelude.{string_bytes}
use Rattle.filetree.specs.Modulefiles.{FileContent, absent, no_cookie, not_utf8, script}
use Rattle.search.specs.declared.modulefile.FileContent as content
use Rattle.search.specs.declared.modulefile.FileContent.TheVariants.{Absent, NoCookie, NotUtf8, Script}

-- what a path holds
abbrev pub file_content_view : content.FileContent → FileContent
file_content_view Absent = absent
file_content_view NoCookie = no_cookie
file_content_view NotUtf8 = not_utf8
file_content_view (Script text) = script (string_bytes text)
