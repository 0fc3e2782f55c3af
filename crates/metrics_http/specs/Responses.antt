-- What a request is answered (RFC 9112, 4 and 6; RFC 9110, 8.3, 8.6, 10.2.1 and 15; OpenMetrics 1.0, "Negotiation"). Each response is the connection's last.
use Rattle.std.specs.Prelude.{ℕ, List, [], ◌∷◌, ◌++◌, codes, decimal, length}
use Rattle.metrics_http.specs.declared.request.Asked.{Asked}
use Rattle.metrics_http.specs.declared.request.Asked.TheVariants.{Metrics, Malformed, NotFound, NotAllowed, Misdirected}

abbrev pub line_end : List ℕ
line_end = 13 ∷ 10 ∷ []

-- what stands behind the last field but one
unfoldable pub behind : List ℕ
behind = line_end ++ codes "Connection: close" ++ line_end ++ line_end

-- ---- metrics

unfoldable pub front : List ℕ
front = codes "HTTP/1.1 200 OK" ++ line_end ++ codes "Content-Type: application/openmetrics-text; version=1.0.0; charset=utf-8" ++ line_end ++ codes "Content-Length: "

abbrev pub with_metrics : List ℕ → List ℕ
with_metrics text = front ++ decimal (length text) ++ behind ++ text

-- ---- none

-- with further fields
abbrev refusal : List ℕ → List ℕ → List ℕ
refusal status fields = codes "HTTP/1.1 " ++ status ++ line_end ++ fields ++ codes "Content-Length: 0" ++ line_end ++ codes "Connection: close" ++ line_end ++ line_end

abbrev pub without_metrics : Asked → List ℕ
without_metrics Metrics = refusal (codes "503 Service Unavailable") []
without_metrics Malformed = refusal (codes "400 Bad Request") []
without_metrics NotFound = refusal (codes "404 Not Found") []
without_metrics NotAllowed = refusal (codes "405 Method Not Allowed") (codes "Allow: GET" ++ line_end)
without_metrics Misdirected = refusal (codes "421 Misdirected Request") []
